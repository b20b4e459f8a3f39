-- Proves the search for a row among ascending rows: a look at one place rules out all places on one side, so the range narrows. Once the range is one
-- place, the row is there or nowhere.
-- Assumes nothing.
use Prim.Native.Nat.{ℕ, zero, suc, ◌+◌, ◌<◌, ◌≤◌}
use mathlib.Core.Path.{◌≡◌}
use mathlib.Core.Logic.{◌⊎◌, inl, inr, ◌≢◌}
use mathlib.Core.List.Memᴰ
use mathlib.Core.List.{List, [], ◌∷◌}
use native.Mathlib.Omega.{arith}
use lib.ListN.{length, get_or}
use Rattle.papers.specs.Lists.{◌∈◌, Asc}
use Rattle.list_laws.proofs.Ascending.{asc-above}
use Rattle.list_laws.proofs.Tests.{Compare, below, level, above, compare}
use Rattle.list_laws.proofs.Members.{at_place}
use Rattle.run_front.specs.Search.{Bracket}

-- a later place holds a greater number
pub places-ascend : (b : ℕ) (l : List ℕ) → Asc b l → (i k : ℕ) → i < k → k < length l → get_or l i 0 < get_or l k 0
places-ascend b [] s i k h u = absurd (omega arith)
places-ascend b (x ∷ l) s zero zero h u = absurd (omega arith)
places-ascend b (x ∷ l) s zero (suc k) h u = asc-above x l s.1 (at_place l k (omega arith))
places-ascend b (x ∷ l) s (suc i) zero h u = absurd (omega arith)
places-ascend b (x ∷ l) s (suc i) (suc k) h u = places-ascend x l s.1 i k (omega arith) (omega arith)

places-rise : (l : List ℕ) → Asc 0 l → (i k : ℕ) → i ≤ k → k < length l → get_or l i 0 ≤ get_or l k 0
places-rise l s i k h u = go (compare i k)
  where
    go : Compare i k → get_or l i 0 ≤ get_or l k 0
    go (below b) = omega (arith, places-ascend 0 l s i k b u)
    go (level e) = rw e (omega arith)
    go (above b) = absurd (omega arith)

module _ {rows : List ℕ} {row lo hi : ℕ} (ascending : Asc 0 rows) (b : Bracket rows row lo hi) where
  -- the row at a place of the range is below: the place sought is behind it
  pub narrow-above : {m : ℕ} → m < hi → get_or rows m 0 < row → Bracket rows row (m + 1) hi
  narrow-above {m} h l =
      let w = b.within in
      record {
        rising = omega arith;
        within = w;
        before = λ i q. omega (arith, places-rise rows ascending i m (omega arith) (omega arith));
        behind = b.behind;
      }

  -- the row there is not below: the place sought is there or before it
  pub narrow_below : {m : ℕ} → lo ≤ m → m < hi → row ≤ get_or rows m 0 → Bracket rows row lo m
  narrow_below {m} u h l =
      let w = b.within in
      record { rising = u; within = omega arith; before = b.before; behind = λ i q p. omega (arith, places-rise rows ascending m i q p) }

-- the range is one place: the place is known
pub one_place : {rows : List ℕ} {row lo hi : ℕ} → Bracket rows row lo hi → hi ≤ lo → Bracket rows row lo lo
one_place {rows} {row} {lo} {hi} b h = let r = b.rising in let e : hi ≡ lo = omega arith in rw e at b

-- the row is at its place
pub found-there : (rows : List ℕ) (row place : ℕ) → place < length rows → get_or rows place 0 ≡ row → row ∈ rows
found-there rows row place h e = rw (← e) (at_place rows place h)

-- a row that is not at its place is nowhere
absent : (b : ℕ) (rows : List ℕ) → Asc b rows → (row place : ℕ) → ((i : ℕ) → i < place → get_or rows i 0 < row)
    → (place < length rows → row < get_or rows place 0) → ¬ (row ∈ rows)
absent b [] s row place before there m = Memᴰ.not-nil m
absent b (x ∷ rows) s row zero before there m = go (Memᴰ.cases_cons m)
  where
    go : (row ≡ x) ⊎ (row ∈ rows) → ⊥
    go (inl e) = let h = there (omega arith) in omega arith
    go (inr k) = let h = there (omega arith) in omega (arith, asc-above x rows s.1 k)
absent b (x ∷ rows) s row (suc place) before there m =
    go (Memᴰ.cases_cons m) (absent x rows s.1 row place (λ i h. before (suc i) (omega arith)) (λ h. there (omega arith)))
  where
    go : (row ≡ x) ⊎ (row ∈ rows) → ¬ (row ∈ rows) → ⊥
    go (inl e) ih = let h = before 0 (omega arith) in omega arith
    go (inr k) ih = ih k

pub found_nowhere : {rows : List ℕ} {row place : ℕ} → Asc 0 rows → Bracket rows row place place → (place < length rows → get_or rows place 0 ≢ row)
    → ¬ (row ∈ rows)
found_nowhere {rows} {row} {place} s b other =
    absent 0 rows s row place b.before (λ h. let q = other h in let p = b.behind place (omega arith) h in omega arith)
