-- Bytes written as a quoted text.
--     ascii s     the codes of its characters, each below 128 wherever this is used
--     byte s      a quoted character as its byte: only the first character counts, and `byte ""` is 0
use Rattle.std.specs.Prelude.{ℕ, List, [], ◌∷◌}
use Prim.Native.Char.{code}
use Prim.Native.String.{String, [] as none, ◌∷◌ as ◌then◌}

abbrev pub ascii : String → List ℕ
ascii none = []
ascii (c then s) = code c ∷ ascii s

abbrev pub byte : String → ℕ
byte none = 0
byte (c then s) = code c
