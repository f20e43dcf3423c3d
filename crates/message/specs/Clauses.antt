-- The messages of the code, and the room that is asked for one.
--     IndexFits message                                     an argument's index is below 2 ^ 63, as the numbers that are printed are
--     told program message                                  the message as it is told
--     stream_room, program_room, argument_room, named_room     the most bytes of a stream's name, of the program's part, and of an argument without and
--                                                          with its bytes
--     message_room                                          the most bytes of every message
use Rattle.std.specs.Prelude.{ℕ, ◌+◌, ◌^◌, ◌<◌, List}
use Rattle.printing.specs.Clauses.{number_room}
use Rattle.file_name.specs.Clauses.{start_room, name_room}
use Rattle.message.specs.Message.{missing_message, named_argument, excess_message, file_message, standard_input, standard_output, stream_message}
use Rattle.message.specs.declared.Message.{Message}
use Rattle.message.specs.declared.Message.TheVariants.{MissingArgument, ExcessArgument, Argument, File, StandardInput, StandardOutput}

abbrev pub IndexFits : Message → Type 0
IndexFits (MissingArgument index) = index < 2 ^ 63
IndexFits (ExcessArgument index name) = index < 2 ^ 63
IndexFits (Argument index name) = index < 2 ^ 63
IndexFits (File name) = Unit {0}
IndexFits StandardInput = Unit {0}
IndexFits StandardOutput = Unit {0}

abbrev pub told : List ℕ → Message → List ℕ
told program (MissingArgument index) = missing_message program index
told program (ExcessArgument index name) = excess_message program index name.now
told program (Argument index name) = named_argument program index name.now
told program (File name) = file_message program name.now
told program StandardInput = stream_message program standard_input
told program StandardOutput = stream_message program standard_output

abbrev pub stream_room : ℕ
stream_room = 15

abbrev pub program_room : ℕ
program_room = start_room + 2

abbrev pub argument_room : ℕ
argument_room = program_room + 9 + number_room

abbrev pub named_room : ℕ
named_room = argument_room + 1 + name_room

abbrev pub message_room : ℕ
message_room = named_room + 15
