-- The way from bytes to bytes: what a call leaves of words, told of the bytes.
-- Assumes nothing.
use mathlib.Core.Path.{◌≡◌, refl, sym, ap, ◌∙◌}
use mathlib.Core.List.{List}
use mathlib.Core.Bool.{Bool, true, false, cond, ◌||◌}
use Prim.Native.Nat.{ℕ, zero, suc, ◌*◌, ◌/◌}
use native.Mathlib.Omega.{arith}
use lib.Dec.{eqb, leb}
use lib.ListN.{length, replicate}
use borrow.Author.Tests.{leb-true}
use Rattle.base.proofs.All.{and_left, and_right}
use Rattle.base.proofs.Each.{cons_same}
use Rattle.answers.specs.Checks.{Check, first_of}
use Rattle.fill.specs.Promise.{cleared, leaves}
use Rattle.wire.specs.Bytes.{bytes_of_word, bytes_of_words}
use Rattle.wire.specs.Words.{bytes_of_indexes, indexes_in}
use Rattle.pattern_bytes.proofs.RoomLaws.{fewer}
use Rattle.fill_way.specs.Promise.{Wrote, Cleared}
use Rattle.fill_way.specs.Ways.{writes, word_checks, new_offsets, new_columns, new_splits, WroteWords, WroteBytes, HeldFill, is_small}
use Rattle.fill_way.specs.declared.unchecked.Call.{Call}

-- a word that is 0 has bytes that are 0
zero_bytes : (m : ℕ) → bytes_of_indexes (replicate m 0) ≡ replicate (4 * m) 0
unfolding bytes_of_indexes bytes_of_words bytes_of_word
zero_bytes zero = refl
zero_bytes (suc m) =
    let e : 4 * suc m ≡ suc (suc (suc (suc (4 * m)))) = omega arith in
    rw e (cons_same refl (cons_same refl (cons_same refl (cons_same refl (zero_bytes m)))))

-- what a call of this number left of words, as bytes
pub bytes_left : (number : ℕ) (new words words' bytes bytes' : List ℕ) → length bytes ≡ 4 * length words → words' ≡ leaves number new words
    → bytes' ≡ cond (writes number) (bytes_of_indexes words') bytes → bytes' ≡ leaves number (bytes_of_indexes new) bytes
bytes_left number new words words' bytes bytes' long left put = put ∙ ap (λ (l : List ℕ). cond (writes number) (bytes_of_indexes l) bytes) left ∙ go (eqb number 0) (eqb number 4 || eqb number 5)
  where
    zeros : bytes_of_indexes (cleared words) ≡ cleared bytes
    zeros = zero_bytes (length words) ∙ ap (λ (n : ℕ). replicate n 0) (sym long)

    go : (done cut : Bool) → cond (done || cut) (bytes_of_indexes (cond done new (cond cut (cleared words) words))) bytes ≡ cond done (bytes_of_indexes new) (cond cut (cleared bytes) bytes)
    go true cut = refl
    go false true = zeros
    go false false = refl

-- work that is 0 after a call that wrote
pub work_left : (number : ℕ) (bytes bytes' : List ℕ) → bytes' ≡ cond (writes number) (cleared bytes) bytes → bytes' ≡ leaves number (cleared bytes) bytes
work_left number bytes bytes' is = is ∙ go (eqb number 0) (eqb number 4 || eqb number 5)
  where
    go : (done cut : Bool) → cond (done || cut) (cleared bytes) bytes ≡ cond done (cleared bytes) (cond cut (cleared bytes) bytes)
    go true cut = refl
    go false true = refl
    go false false = refl

-- another list of checks that answers the same
pub rechecked : (checks later : List Check) (number : ℕ) (newO new_c new_s o cs ss o' cs' ss' : List ℕ) → first_of checks ≡ first_of later
    → Wrote checks number newO new_c new_s o cs ss o' cs' ss' → Wrote later number newO new_c new_s o cs ss o' cs' ss'
rechecked checks later number newO new_c new_s o cs ss o' cs' ss' same w =
    record { first = w.first ∙ same; offsets_are = w.offsets_are; columns_are = w.columns_are; splits_are = w.splits_are }

-- the same of the number as the code has it
pub renumbered : (checks : List Check) (n number : ℕ) (newO new_c new_s o cs ss o' cs' ss' : List ℕ) → n ≡ number
    → Wrote checks number newO new_c new_s o cs ss o' cs' ss' → Wrote checks n newO new_c new_s o cs ss o' cs' ss'
renumbered checks n number newO new_c new_s o cs ss o' cs' ss' is w = rw is w

pub work_renumbered : (n number : ℕ) (levels row levels' row' : List ℕ) → n ≡ number → Cleared number levels row levels' row' → Cleared n levels row levels' row'
work_renumbered n number levels row levels' row' is w = rw is w

-- what was read, worked on and put
pub wrote_bytes : (call : Call) (k : ℕ) (starts entries strs ents offs cols cuts offs' cols' cuts' offsets columns splits offsets' columns' splits' : List ℕ) (number n : ℕ)
    → strs ≡ indexes_in starts → ents ≡ indexes_in entries
    → length offsets ≡ 4 * length offs → length columns ≡ 4 * length cols → length splits ≡ 4 * length cuts
    → n ≡ number → WroteWords call k strs ents offs cols cuts number offs' cols' cuts'
    → offsets' ≡ cond (writes n) (bytes_of_indexes offs') offsets → columns' ≡ cond (writes n) (bytes_of_indexes cols') columns → splits' ≡ cond (writes n) (bytes_of_indexes cuts') splits
    → WroteBytes call k starts entries offsets columns splits number offsets' columns' splits'
wrote_bytes call k starts entries strs ents offs cols cuts offs' cols' cuts' offsets columns splits offsets' columns' splits' number n es ee lo lc ls is w po pc ps =
    let S = indexes_in starts in
    let E = indexes_in entries in
    let v : WroteWords call k S E offs cols cuts number offs' cols' cuts' = rw (es, ee) at w in
    let o : length offs ≡ length offsets / 4 = omega (arith, lo) in
    let c : length cols ≡ length columns / 4 = omega (arith, lc) in
    let s : length cuts ≡ length splits / 4 = omega (arith, ls) in
    record {
      first = v.first
          ∙ ap (λ (m : ℕ). first_of (word_checks call k S E m (length cols) (length cuts))) o
          ∙ ap (λ (m : ℕ). first_of (word_checks call k S E (length offsets / 4) m (length cuts))) c
          ∙ ap (λ (m : ℕ). first_of (word_checks call k S E (length offsets / 4) (length columns / 4) m)) s;
      offsets_are = bytes_left number (new_offsets call k S E) offs offs' offsets offsets' lo v.offsets_are (rw is at po);
      columns_are = bytes_left number (new_columns call k S E (length columns / 4)) cols cols' columns columns' lc
          (v.columns_are ∙ ap (λ (m : ℕ). leaves number (new_columns call k S E m) cols) c) (rw is at pc);
      splits_are = bytes_left number (new_splits call k S E) cuts cuts' splits splits' ls v.splits_are (rw is at ps);
    }

-- small bytes fit in the small rooms
pub small_held : (starts entries offsets columns splits : ℕ) → is_small starts entries offsets columns splits ≡ true
    → HeldFill 4096 65535 65535 starts entries offsets columns splits → HeldFill 16 64 256 starts entries offsets columns splits
small_held starts entries offsets columns splits small held =
    let s₁ = and_right (leb starts 68) _ small in
    let s₂ = and_right (leb entries 256) _ s₁ in
    let s₃ = and_right (leb offsets 68) _ s₂ in
    record {
      of_starts = fewer 4097 17 starts held.of_starts (leb-true starts 68 (and_left (leb starts 68) _ small));
      of_entries = fewer 65535 64 entries held.of_entries (leb-true entries 256 (and_left (leb entries 256) _ s₁));
      of_offsets = fewer 4097 17 offsets held.of_offsets (leb-true offsets 68 (and_left (leb offsets 68) _ s₂));
      of_columns = fewer 65535 256 columns held.of_columns (leb-true columns 1024 (and_left (leb columns 1024) _ s₃));
      of_splits = fewer 4096 16 splits held.of_splits (leb-true splits 64 (and_right (leb columns 1024) _ s₃));
    }
