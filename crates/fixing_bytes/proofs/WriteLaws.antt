-- What is written over a matrix, from its decoded words, is what the call makes of its bytes.
-- Assumes nothing.
use mathlib.Core.Path.{◌≡◌, refl}
use mathlib.Core.List.{List}
use mathlib.Core.Bool.{false}
use Prim.Native.Nat.{ℕ, ◌/◌}
use lib.IntN.{ℤ}
use lib.ListN.{length}
use lib.Ieee.{Float, binary64}
use Rattle.answers.specs.Numbers.{Answer}
use Rattle.answers.specs.Numbers.{number_of}
use Rattle.answers.specs.Promise.{Ends, names}
use Rattle.wire.specs.Bytes.{values_in, bytes_of}
use Rattle.wire.specs.Words.{indexes_in, flags_in}
use Rattle.wire.proofs.ByteLaws.{length_values}
use Rattle.wire.proofs.WordLaws.{length_flags}
use Rattle.matrix_bytes.specs.Rooms.{written}
use Rattle.matrix_bytes.proofs.WayLaws.{both_encoded}
use Rattle.fixing_bytes.specs.Operations.{checks_of, new_values, new_diagonal}
use Rattle.fixing_bytes.specs.declared.Operation.{Operation}
use Rattle.fixing_bytes.specs.declared.Operation.TheVariants.{SetZero, SetFixedBc}

-- no check of these calls has the number 0
op_names : (op : Operation) (dim : ℕ) (o c : List ℕ) (v d flags : ℕ) → names 0 (checks_of op dim o c v d flags) ≡ false
op_names SetZero dim o c v d flags = refl
op_names SetFixedBc dim o c v d flags = refl

pub wrote_matrix : (op : Operation) (dim : ℕ) (valDia : Float) (flags o c v d : List ℕ) (marks : List ℤ) (offs cols : List ℕ) (vals diag left left' : List Float) (answer : Answer)
    (out out' : List ℕ) → offs ≡ indexes_in o → cols ≡ indexes_in c → vals ≡ values_in binary64 v → diag ≡ values_in binary64 d → marks ≡ flags_in flags
    → Ends {A = List Float × List Float} (checks_of op dim offs cols (length vals) (length diag) (length marks)) answer
    (new_values binary64 op dim marks offs cols vals, new_diagonal binary64 op dim valDia marks offs diag) (vals, diag) (left, left')
    → out ≡ written binary64 (number_of answer) left v → out' ≡ written binary64 (number_of answer) left' d
    → Ends {A = List ℕ × List ℕ} (checks_of op dim (indexes_in o) (indexes_in c) (length v / 8) (length d / 8) (length flags / 4)) answer (
      bytes_of binary64 (new_values binary64 op dim (flags_in flags) (indexes_in o) (indexes_in c) (values_in binary64 v)),
      bytes_of binary64 (new_diagonal binary64 op dim valDia (flags_in flags) (indexes_in o) (values_in binary64 d)),
    ) (v, d) (out, out')
wrote_matrix op dim valDia flags o c v d marks offs cols vals diag left left' answer out out' eo ec ev ed em end wrote wrote' =
    rw (← length_values binary64 v, ← length_values binary64 d, ← length_flags flags)
    (both_encoded binary64 _ answer (op_names op dim (indexes_in o) (indexes_in c) _ _ _) _ _ left _ _ left' v out d out' (rw (eo, ec, ev, ed, em) at end) wrote wrote')
