-- What is told on standard error. Where a call failed, `: `, the reason and byte 10 follow.
--     program_part program                      the program's name, of which no more is told than of any name, and `: `
--     argument_part program index               an argument, counted from 1
--     missing_message program index             an argument that is missing, as a line
--     named_argument program index name         an argument by its bytes
--     excess_message program index name         an argument that is one too many, as a line
--     file_message program name                 a file
--     standard_input, standard_output            the streams
--     stream_message program stream             a stream
use Rattle.std.specs.Prelude.{ℕ, List, ◌++◌, pos}
use Rattle.text.specs.Ascii.{ascii}
use Rattle.number.specs.Number.{print}
use Rattle.file_name.specs.Name.{escaped_start, escaped_name}

abbrev pub program_part : List ℕ → List ℕ
program_part program = escaped_start program ++ ascii ": "

abbrev pub argument_part : List ℕ → ℕ → List ℕ
argument_part program index = (program_part program ++ ascii "argument ") ++ print (pos index)

abbrev pub missing_message : List ℕ → ℕ → List ℕ
missing_message program index = argument_part program index ++ ascii ": missing\n"

abbrev pub named_argument : List ℕ → ℕ → List ℕ → List ℕ
named_argument program index name = (argument_part program index ++ ascii " ") ++ escaped_name name

abbrev pub excess_message : List ℕ → ℕ → List ℕ → List ℕ
excess_message program index name = named_argument program index name ++ ascii ": one too many\n"

abbrev pub file_message : List ℕ → List ℕ → List ℕ
file_message program name = program_part program ++ escaped_name name

abbrev pub standard_input : List ℕ
standard_input = ascii "standard input"

abbrev pub standard_output : List ℕ
standard_output = ascii "standard output"

abbrev pub stream_message : List ℕ → List ℕ → List ℕ
stream_message program stream = program_part program ++ stream
