-- What the text of the published roots says.
-- A byte is its code, so 48 is the digit 0, 65 the letter A and 97 the letter a.
use Rattle.std.specs.Prelude.{Bool, true, false, ◌&&◌, List, ℕ, length, ◌==◌, slice_index, Result, Ok, Err}
use Rattle.words.specs.Text.{all_digits, hex_value}
use Rattle.roots.specs.declared.input.Line.{Line}
use Rattle.roots.specs.declared.input.Line.TheVariants.{Root, Comment}
use Rattle.roots.specs.declared.input.Malformed.{Malformed}

-- the first if the test holds, and else the second
abbrev pub pick : Bool → Result Line Malformed → Result Line Malformed → Result Line Malformed
pick true a b = a
pick false a b = b

abbrev pub malformed : Result Line Malformed
malformed = Err (record {})

-- A line whose first byte is # (35) is a comment. One of 33 bytes that has 16 digits, a space (32) and 16 digits has a root. Any other is malformed.
unfoldable pub line_of : List ℕ → Result Line Malformed
line_of line =
    pick (length line == 0) malformed
    (pick (slice_index line 0 == 35) (Ok Comment)
    (pick (length line == 33 && slice_index line 16 == 32 && all_digits line 0 16 && all_digits line 17 16) (Ok (Root (hex_value line 0 16) (hex_value line 17 16))) malformed))
