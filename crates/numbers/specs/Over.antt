-- AN AREA WHOSE FIRST ELEMENTS ARE WRITTEN AND WHOSE REST IS AS FOUND.
use Rattle.std.specs.Prelude.{List, ◌++◌, length, drop}

-- "It writes the front of each .. and leaves the rest as found."
abbrev pub over : {A : Type 0} → (written found : List A) → List A
over written found = written ++ drop (length written) found
