-- Proves what marking leaves in work: the place of each marked row holds the column's number, and every other place keeps its number.
-- Assumes nothing.
use Prim.Native.Nat.{ℕ, ◌+◌, ◌<◌, ◌≤◌}
use mathlib.Core.Path.{◌≡◌, refl, sym, ap, ◌∙◌}
use mathlib.Core.Logic.{◌⊎◌, inl, inr}
use mathlib.Core.Bool.{Bool, true, false, ◌&&◌}
use mathlib.Core.List.Memᴰ
use mathlib.Core.List.{List, [], ◌∷◌}
use native.Mathlib.Omega.{arith}
use native.Mathlib.Numerals.{add-one}
use lib.ListN.{length, get_or, drop, set, length-set, drop_of_length-le}
use lib.Seq.{drop-cons, get_or-set_same, get_or-set_other, set_out}
use borrow.Author.Tests.{eqb-true}
use Rattle.std.specs.List.{list_all}
use Rattle.std.proofs.lemmas.Grind.{get_or_default_zero}
use Rattle.papers.specs.Lists.{◌∈◌, every}
use Rattle.list_laws.proofs.Tests.{Compare, below, level, above, compare, below_or}
use Rattle.list_laws.proofs.Members.{at_place}
use Rattle.list_laws.proofs.Every.{every-all}
use Rattle.child_lists.specs.Marks.{marked, is_marked, Markable, MarkedWithin, Changed}

-- what a store leaves at place p
set_cases : (l : List ℕ) (k v p : ℕ) → (get_or (set l k v) p 0 ≡ get_or l p 0) ⊎ ((p ≡ k) × (get_or (set l k v) p 0 ≡ v))
set_cases l k v p = go (compare p k) (below_or p (length l))
  where
    go : Compare p k → (p < length l) ⊎ (length l ≤ p) → (get_or (set l k v) p 0 ≡ get_or l p 0) ⊎ ((p ≡ k) × (get_or (set l k v) p 0 ≡ v))
    go (below h) b = inl (get_or-set_other l k p v 0 (λ e. omega arith))
    go (above h) b = inl (get_or-set_other l k p v 0 (λ e. omega arith))
    go (level e) (inl b) = inr (e, rw e (get_or-set_same l k v 0 (rw e at b)))
    go (level e) (inr b) = inl (ap (λ s. get_or s p 0) (set_out l k v (rw e at b)))

-- what place p of work holds once the rows of l are marked
pub marked-cases : (n j : ℕ) (l w : List ℕ) (p : ℕ)
    → (get_or (marked n j l w) p 0 ≡ get_or w p 0) ⊎ ((get_or (marked n j l w) p 0 ≡ j) × ((i : ℕ) × ((i ∈ l) × (p ≡ n + n + i))))
unfolding marked
marked-cases n j [] w p = inl refl
marked-cases n j (r ∷ rs) w p = go (marked-cases n j rs (set w (n + n + r) j) p) (set_cases w (n + n + r) j p)
  where
    w₁ : List ℕ
    w₁ = set w (n + n + r) j

    go : (get_or (marked n j rs w₁) p 0 ≡ get_or w₁ p 0) ⊎ ((get_or (marked n j rs w₁) p 0 ≡ j) × ((i : ℕ) × ((i ∈ rs) × (p ≡ n + n + i))))
        → (get_or w₁ p 0 ≡ get_or w p 0) ⊎ ((p ≡ n + n + r) × (get_or w₁ p 0 ≡ j))
        → (get_or (marked n j rs w₁) p 0 ≡ get_or w p 0) ⊎ ((get_or (marked n j rs w₁) p 0 ≡ j) × ((i : ℕ) × ((i ∈ (r ∷ rs)) × (p ≡ n + n + i))))
    go (inl e) (inl f) = inl (e ∙ f)
    go (inl e) (inr f) = inr (e ∙ f.1, (r, (Memᴰ.head refl, f.0)))
    go (inr e) f = inr (e.0, (e.1.0, (Memᴰ.tail e.1.1.0, e.1.1.1)))

-- marking keeps marks sound, for a list that contains the old rows and the marked ones
pub marks-sound : (n j : ℕ) (l w acc more : List ℕ) → MarkedWithin n j w acc → ((i : ℕ) → i ∈ acc → i ∈ more) → ((i : ℕ) → i ∈ l → i ∈ more)
    → MarkedWithin n j (marked n j l w) more
marks-sound n j l w acc more s f g i h e = go (marked-cases n j l w (n + n + i))
  where
    go : (get_or (marked n j l w) (n + n + i) 0 ≡ get_or w (n + n + i) 0) ⊎ ((get_or (marked n j l w) (n + n + i) 0 ≡ j) ×
        ((k : ℕ) × ((k ∈ l) × (n + n + i ≡ n + n + k))))
        → i ∈ more
    go (inl q) = f i (s i h (sym q ∙ e))
    go (inr q) = let z : i ≡ q.1.0 = omega (arith, q.1.1.1) in rw z (g q.1.0 q.1.1.0)

-- marking changes only marks, and sets them to j
pub changed-none : (n j : ℕ) (w : List ℕ) → Changed n j w w
changed-none n j w = record { links = λ p h. refl; marks = λ p h. inl refl }

pub changed-more : {n j : ℕ} {w₀ w : List ℕ} (w' : List ℕ) → Changed n j w₀ w → Changed n j w w' → Changed n j w₀ w'
changed-more {n} {j} {w₀} {w} w' a b = record { links = λ p h. b.links p h ∙ a.links p h; marks = λ p h. go p (b.marks p h) (a.marks p h) }
  where
    go : (p : ℕ) → (get_or w' p 0 ≡ get_or w p 0) ⊎ (get_or w' p 0 ≡ j) → (get_or w p 0 ≡ get_or w₀ p 0) ⊎ (get_or w p 0 ≡ j)
        → (get_or w' p 0 ≡ get_or w₀ p 0) ⊎ (get_or w' p 0 ≡ j)
    go p (inl u) (inl v) = inl (u ∙ v)
    go p (inl u) (inr v) = inr (u ∙ v)
    go p (inr u) v = inr u

pub changed-marked : (n j : ℕ) (l w : List ℕ) → ((i : ℕ) → i ∈ l → 1 ≤ i) → Changed n j w (marked n j l w)
changed-marked n j l w f = record { links = λ p h. low p h (marked-cases n j l w p); marks = λ p h. high p (marked-cases n j l w p) }
  where
    low : (p : ℕ) → p ≤ n + n → (get_or (marked n j l w) p 0 ≡ get_or w p 0) ⊎ ((get_or (marked n j l w) p 0 ≡ j) × ((i : ℕ) × ((i ∈ l) × (p ≡ n + n + i))))
        → get_or (marked n j l w) p 0 ≡ get_or w p 0
    low p h (inl u) = u
    low p h (inr u) = absurd (omega (arith, f u.1.0 u.1.1.0, u.1.1.1))

    high : (p : ℕ) → (get_or (marked n j l w) p 0 ≡ get_or w p 0) ⊎ ((get_or (marked n j l w) p 0 ≡ j) × ((i : ℕ) × ((i ∈ l) × (p ≡ n + n + i))))
        → (get_or (marked n j l w) p 0 ≡ get_or w p 0) ⊎ (get_or (marked n j l w) p 0 ≡ j)
    high p (inl u) = inl u
    high p (inr u) = inr u.0

-- ---- the loop that marks

-- the first k rows of the list are marked
pub record Marking (n j : ℕ) (l w₀ w : List ℕ) (k : ℕ) : Type 0 where
  pub left : marked n j (drop k l) w ≡ marked n j l w₀
  pub long : length w ≡ length w₀

pub mark-begin : (n j : ℕ) (l w : List ℕ) → Marking n j l w w 0
mark-begin n j l w = record { left = refl; long = refl }

pub mark-turn : {n j : ℕ} {l w₀ w : List ℕ} {k : ℕ} → Marking n j l w₀ w k → k < length l → Marking n j l w₀ (set w (n + n + get_or l k 0) j) (k + 1)
unfolding marked
mark-turn {n} {j} {l} {w₀} {w} {k} m h =
    record { left = rw add-one (rw (drop-cons l k 0 h) at m.left); long = length-set w (n + n + get_or l k 0) j ∙ m.long }

pub mark-stop : {n j : ℕ} {l w₀ w : List ℕ} {k : ℕ} → Marking n j l w₀ w k → length l ≤ k → w ≡ marked n j l w₀
unfolding marked
mark-stop {l = l} m h = rw (drop_of_length-le l h) at m.left

-- work has the place of a row's mark
pub mark-place : {n : ℕ} {l w : List ℕ} → Markable n l w → (k : ℕ) → k < length l → n + n + get_or l k 0 < length w
mark-place {l = l} m k h = omega (arith, m.most (get_or l k 0) (at_place l k h), m.long)

-- the same for a row that stands at place k, whatever stands for a place beyond
pub mark-place-of : {n : ℕ} {l w : List ℕ} → Markable n l w → (k : ℕ) → k < length l → (v : ℕ) → v ≡ get_or l k v → n + n + v < length w
mark-place-of {l = l} m k h v e = rw (e ∙ get_or_default_zero l k v h) (mark-place m k h)

-- ---- the test of marks

-- what `all` of a list's iterator answers
pub all-every : (f : ℕ → Bool) (l : List ℕ) → list_all f l ≡ every f l
unfolding every
all-every f [] = refl
all-every f (x ∷ xs) = go (f x) (all-every f xs)
  where
    go : (b : Bool) → list_all f xs ≡ every f xs → (b && list_all f xs) ≡ (elim b [ true ↦ every f xs | false ↦ false ])
    go true e = e
    go false e = refl

module _ (n j : ℕ) (l w : List ℕ) where
  -- if sound marks cover a list, it brings nothing new
  pub covered-in : (acc : List ℕ) → every (is_marked n j w) l ≡ true → MarkedWithin n j w acc → (i : ℕ) → 1 ≤ i → i ∈ l → i ∈ acc
  covered-in acc e s i h m = s i h (eqb-true (get_or w (n + n + i) 0) j ((every-all (is_marked n j w) l).0 e i m))
