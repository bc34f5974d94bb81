-- A row whose sums begin with their first term is like the row whose sums begin at +0, and the same where no value of it is a zero.
-- Assumes nothing.
use mathlib.Core.Path.{◌≡◌, refl, sym, ap, ◌∙◌, subst}
use mathlib.Core.List.{List}
use mathlib.Core.Bool.{true, not}
use Prim.Native.Nat.{ℕ, ◌+◌, ◌*◌, ◌≤◌, ◌<◌}
use native.Mathlib.Omega.{arith}
use lib.ListN.{length, get_or}
use lib.Seq.{ext_get_or}
use lib.Ieee.{Float, Format, nan, add, mul, eq}
use lib.Ieee.Fits.{mul-fits}
use borrow.Author.Tests.{not-true}
use Rattle.base.specs.Iterate.{iterate}
use Rattle.base.proofs.All.{all_at}
use Rattle.blocks.specs.Block.{plus_zero, element, sum_to, bare_sum, applied, applied_bare, scaled, added, no_zero}
use Rattle.blocks.specs.Lent.{block_at, vector_at, put_at}
use Rattle.blocks.proofs.ListedLaws.{length_listed, listed_at}
use Rattle.matrix.specs.Alike.{Alike, same, RowsAlike}
use Rattle.matrix.specs.Product.{add_product, add_entries}
use Rattle.matrix.specs.Steps.{scale_add_row_at}
use Rattle.matrix.proofs.AlikeLaws.{alike_same, bare_alike, step, by}
use Rattle.matrix.proofs.ProductLaws.{joined_row, four_more}

pub rows_same : (n : ℕ) (s : List Float) → RowsAlike n s s
rows_same n s = record { at = λ k below. same }

pub alike_by : {n : ℕ} {s u t : List Float} → s ≡ u → RowsAlike n s t → RowsAlike n u t
alike_by {n} {s} {u} {t} e like = subst (λ (l : List Float). RowsAlike n l t) e like

-- value k of a list of products, and of a list of sums of which the right terms are scaled
scaled_at : (f : Format) (n : ℕ) (alpha : Float) (l : List Float) (k : ℕ) → k < n → get_or (scaled f n l alpha) k nan ≡ mul f (get_or l k nan) alpha
scaled_at f n alpha l k below = listed_at n (λ i. mul f (get_or l i nan) alpha) k below

sum_at : (f : Format) (n : ℕ) (alpha : Float) (l m : List Float) (k : ℕ) → k < n
    → get_or (added f n l (scaled f n m alpha)) k nan ≡ add f (get_or l k nan) (mul f (get_or m k nan) alpha)
sum_at f n alpha l m k below =
    listed_at n (λ i. add f (get_or l i nan) (get_or (scaled f n m alpha) i nan)) k below ∙ ap (add f (get_or l k nan)) (scaled_at f n alpha m k below)

-- block times vector, with sums from +0 and from their first terms
lines_alike : (f : Format) (n : ℕ) (b w : List Float) → 1 ≤ n → (k : ℕ) → k < n → Alike (get_or (applied f n b w) k nan) (get_or (applied_bare f n b w) k nan)
lines_alike f n b w some k below =
    by (listed_at n (λ i. sum_to f n (λ q. mul f (element n b i q) (get_or w q nan))) k below)
    (listed_at n (λ i. bare_sum f n (λ q. mul f (element n b i q) (get_or w q nan))) k below)
    (bare_alike f n (λ q. mul f (element n b k q) (get_or w q nan)) some (mul-fits f (element n b k 0) (get_or w 0 nan)))

sums_alike : (f : Format) (n : ℕ) (alpha : Float) (b w s t r : List Float) → 1 ≤ n → r ≡ added f n t (scaled f n (applied_bare f n b w) alpha) → RowsAlike n s t
    → RowsAlike n (added f n s (scaled f n (applied f n b w) alpha)) r
sums_alike f n alpha b w s t r some is like =
    record {
      at =
          λ k below. by (sum_at f n alpha s (applied f n b w) k below)
          (ap (λ (l : List Float). get_or l k nan) is ∙ sum_at f n alpha t (applied_bare f n b w) k below)
          (step f alpha (like.at k below) (lines_alike f n b w some k below));
    }

-- a block and a row are read and multiplied, the product is scaled and added
pub bare_product : (f : Format) (n : ℕ) (alpha : Float) (values : List Float) (e : ℕ) (x : List Float) (j : ℕ) (t a v p q r : List Float) → 1 ≤ n
    → a ≡ block_at n values e → v ≡ vector_at n x j → p ≡ applied_bare f n a v → q ≡ scaled f n p alpha → r ≡ added f n t q
    → (length r ≡ n) × ((s : List Float) → RowsAlike n s t → RowsAlike n (add_product f n alpha values e x j s) r)
unfolding add_product
bare_product f n alpha values e x j t a v p q r some block row product scale sum =
    let b = block_at n values e in
    let w = vector_at n x j in
    let is : r ≡ added f n t (scaled f n (applied_bare f n b w) alpha) = sum ∙ ap (added f n t) (scale ∙ ap (λ (l : List Float). scaled f n l alpha) (product ∙ ap (λ (l : List Float). applied_bare f n l v) block ∙ ap (applied_bare f n b) row)) in
    (ap length is ∙ length_listed n _, λ s like. sums_alike f n alpha b w s t r some is like)

-- four steps after each other
pub four_alike : (n : ℕ) (f : ℕ → List Float → List Float) (k : ℕ) (t one two three r : List Float)
    → ((s : List Float) → RowsAlike n s t → RowsAlike n (f k s) one) → ((s : List Float) → RowsAlike n s one → RowsAlike n (f (k + 1) s) two)
    → ((s : List Float) → RowsAlike n s two → RowsAlike n (f (k + 2) s) three) → ((s : List Float) → RowsAlike n s three → RowsAlike n (f (k + 3) s) r)
    → (s : List Float) → RowsAlike n s t → RowsAlike n (iterate f k (k + 4) s) r
four_alike n f k t one two three r a b c d s like =
    alike_by (four_more f k s _ _ _ _ refl refl refl refl) (d _ (c _ (b _ (a s like))))

-- where no value is a zero, rows that are alike are the same
settled : (f : Format) (n : ℕ) (s r : List Float) → length s ≡ n → length r ≡ n → RowsAlike n s r → no_zero f n r ≡ true → s ≡ r
settled f n s r long-s long-r like none =
    ext_get_or nan s r (long-s ∙ sym long-r)
    (λ k below. let inside : k < n = omega (arith, long-s) in
    alike_same f (like.at k inside) (not-true _ (all_at (λ i. not (eq (get_or r i nan) (plus_zero f))) k n none inside)))

-- a row of y is read and scaled, the entries and the diagonal are added, and it is put back
pub bare_row : (f : Format) (n : ℕ) (beta alpha : Float) (row : List ℕ) (first : ℕ) (values diagonal x : List Float) (i : ℕ) (y t v u r z : List Float)
    → t ≡ vector_at n y i → v ≡ scaled f n t beta → ((s : List Float) → RowsAlike n s v → RowsAlike n (add_entries f n alpha row first values x s) u)
    → (length r ≡ n) × ((s : List Float) → RowsAlike n s u → RowsAlike n (add_product f n alpha diagonal i x i s) r) → no_zero f n r ≡ true
    → z ≡ put_at (n * i) r y → z ≡ scale_add_row_at f n beta alpha row first values diagonal x i y
bare_row f n beta alpha row first values diagonal x i y t v u r z read scale entries all none written =
    let right = add_product f n alpha diagonal i x i (add_entries f n alpha row first values x v) in
    let is : right ≡ r = settled f n right r (unfold add_product in length_listed n _) all.0 (all.1 _ (entries v (rows_same n v))) none in
    joined_row f n beta alpha row first values diagonal x i y t v _ right z read scale refl refl (written ∙ ap (λ (l : List Float). put_at (n * i) l y) (sym is))
