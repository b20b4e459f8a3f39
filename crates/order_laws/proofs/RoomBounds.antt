-- Proves how much room steps can use: a step finds at most one update for each step before it, and none has more entries than the largest
-- front.
-- Assumes nothing.
use Prim.Native.Nat.{ℕ, zero, suc, ◌+◌, ◌*◌, ◌≤◌}
use mathlib.Core.Path.{◌≡◌, refl}
use mathlib.Core.Logic.{◌⊎◌, inl, inr}
use mathlib.Core.List.Memᴰ
use mathlib.Core.List.{List, [], ◌∷◌}
use native.Mathlib.Omega.{arith}
use native.Mathlib.Nat.{mul-le-mul}
use lib.ListN.{length, drop, length-drop}
use Rattle.papers.specs.Bounds.{max_columns, max_peak}
use Rattle.papers.specs.Lists.{◌∈◌}
use Rattle.papers.specs.Job.{Pattern, Below}
use Rattle.papers.specs.Tree.{t, parent, row_count}
use Rattle.papers.specs.Room.{room_at, entries_after, rooms, peak_of}
use Rattle.papers.specs.Order.{Ordered, pops_of, order_peak}
use Rattle.order_laws.proofs.Triangles.{t-grows}
use Rattle.order_laws.proofs.Rooms.{room-at-most, rooms-nil, rooms-cons}
use Rattle.order_laws.proofs.Largest.{largest-least, sum_bound}
use Rattle.order_laws.proofs.Orders.{ordered-length}
use Rattle.order_laws.proofs.Patterns.{rows_fit}

drop-from : (p : ℕ) (l : List ℕ) {x : ℕ} → x ∈ drop p l → x ∈ l
drop-from zero l m = m
drop-from (suc p) [] m = m
drop-from (suc p) (y ∷ l) m = Memᴰ.tail (drop-from p l m)

entries_from : (p r : ℕ) (entries : List ℕ) {x : ℕ} → x ∈ entries_after p r entries → (x ≡ t r) ⊎ (x ∈ entries)
unfolding entries_after
entries_from p zero entries m = inr (drop-from p entries m)
entries_from p (suc r) entries {x} m = go (Memᴰ.cases_cons m)
  where
    go : (x ≡ t (suc r)) ⊎ (x ∈ drop p entries) → (x ≡ t (suc r)) ⊎ (x ∈ entries)
    go (inl e) = inl e
    go (inr k) = inr (drop-from p entries k)

entries-more : (p r : ℕ) (entries : List ℕ) → length (entries_after p r entries) ≤ suc (length entries)
unfolding entries_after
entries-more p zero entries = omega (arith, length-drop p entries)
entries-more p (suc r) entries = omega (arith, length-drop p entries)

module _ (size pops : ℕ → ℕ) (n b : ℕ) where
  -- b bounds the entries of a front, and n the updates held and the steps to come
  pub rooms-bound : (entries js : List ℕ) → ((j : ℕ) → j ∈ js → t (suc (size j)) ≤ b) → ((x : ℕ) → x ∈ entries → x ≤ b) → length entries + length js ≤ n
      → (r : ℕ) → r ∈ rooms size pops entries js → r ≤ n * b
  rooms-bound entries [] fronts updates count r m = absurd (Memᴰ.not-nil (rw (rooms-nil size pops entries) at m))
  rooms-bound entries (j ∷ js) fronts updates count r m =
      go (Memᴰ.cases_cons (rw (rooms-cons size pops entries j js) at m))
      (λ k. rooms-bound (entries_after (pops j) (size j) entries) js (λ i q. fronts i (Memᴰ.tail q))
      (λ x q. updates' x (entries_from (pops j) (size j) entries q)) (omega (arith, entries-more (pops j) (size j) entries)) r k)
    where
      front : t (suc (size j)) ≤ b
      front = fronts j (Memᴰ.head refl)

      updates' : (x : ℕ) → (x ≡ t (size j)) ⊎ (x ∈ entries) → x ≤ b
      updates' x (inl e) = omega (arith, front, t-grows (size j) (suc (size j)) (omega arith))
      updates' x (inr k) = updates x k

      one : room_at (pops j) (size j) entries ≤ n * b
      one =
          let most : suc (length entries) * b ≤ n * b = mul-le-mul (omega arith) (omega arith) in
          omega (arith, front, room-at-most (pops j) (size j) entries, sum_bound entries b updates)

      go : (r ≡ room_at (pops j) (size j) entries) ⊎ (r ∈ rooms size pops (entries_after (pops j) (size j) entries) js)
          → (r ∈ rooms size pops (entries_after (pops j) (size j) entries) js → r ≤ n * b) → r ≤ n * b
      go (inl e) ih = omega (arith, one)
      go (inr k) ih = ih k

-- a bound of the peak of at most n steps of the columns 1 to n
module _ {n : ℕ} {A : Pattern} (below : Below n A) (order : List ℕ) (count : length order ≤ n) (columns : (j : ℕ) → j ∈ order
    → (1 ≤ j) × (j ≤ n)) where
  pub peak-bound : order_peak n A order ≤ n * t n
  unfolding order_peak peak_of
  peak-bound =
      largest-least (rooms (row_count A) (pops_of n A) [] order) (n * t n)
      (rooms-bound (row_count A) (pops_of n A) n (t n) [] order
      (λ j m. let (l, u) = columns j m in t-grows (suc (row_count A j)) n (omega (arith, rows_fit below j)))
      (λ x m. absurd (Memᴰ.not-nil m)) (omega arith))

  -- the peak fits its field in a plan
  pub peak-fits : n ≤ max_columns → order_peak n A order ≤ max_peak
  unfolding t
  peak-fits h =
      let most : n * t n ≤ max_columns * t max_columns = mul-le-mul h (t-grows n max_columns h) in
      omega (arith, peak-bound)

pub ordered-peak-fits : {n : ℕ} {A : Pattern} → Below n A → n ≤ max_columns → (order : List ℕ) → Ordered (parent A) n order → order_peak n A order ≤ max_peak
ordered-peak-fits below h order o = peak-fits below order (omega (arith, ordered-length order o)) (λ j m. (o.each j).0 m) h
