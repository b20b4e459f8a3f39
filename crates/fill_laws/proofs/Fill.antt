-- Proves that R(j) contains exactly the filled rows. A row of R(j) is in the pattern, or an earlier column that has j as a row put it
-- there; these are the two clauses of fill, read in either direction.
-- Assumes nothing.
use Prim.Native.Nat.{ℕ, zero, suc, ◌<◌, ◌≤◌}
use mathlib.Core.Path.{◌≡◌, refl}
use mathlib.Core.Logic.{◌⊎◌, inl, inr, ◌↔◌}
use mathlib.Core.List.Memᴰ
use mathlib.Core.List.{List, ◌∷◌, Memᴰ}
use native.Mathlib.Omega.{arith}
use native.Mathlib.Nat.{le-suc_iff}
use Rattle.papers.specs.Lists.{◌∈◌, Asc}
use Rattle.papers.specs.Job.{Pattern, Below}
use Rattle.papers.specs.Fill.{Filled, given, filled, lists, R}
use Rattle.list_laws.proofs.Tests.{strong}
use Rattle.list_laws.proofs.Ascending.{asc-above, asc-weaken, asc-ext}
use Rattle.fill_laws.proofs.Gathers.{Held, gather-acc, gather-into, gather-from, gather-asc}

-- a column before j whose list contains j and i, with i above j
pub record Earlier (A : Pattern) (j i : ℕ) : Type 0 where
  pub column : ℕ
  pub before : column < j
  pub holds : j ∈ R A column
  pub row : i ∈ R A column
  pub above : j < i

-- the lists up to column j are R(j) and the lists before it
pub lists-suc : (A : Pattern) (m : ℕ) → lists A (suc m) ≡ R A (suc m) ∷ lists A m
unfolding lists R
lists-suc A m = refl

module _ (A : Pattern) where
  lists-from : (m : ℕ) (l : List ℕ) → Memᴰ l (lists A m) → (k : ℕ) × (k ≤ m) × (l ≡ R A k)
  unfolding lists
  lists-from zero l h = absurd (Memᴰ.not-nil h)
  lists-from (suc m) l h = go (Memᴰ.cases_cons (rw lists-suc at h)) (λ t. lists-from m l t)
    where
      go : (l ≡ R A (suc m)) ⊎ Memᴰ l (lists A m) → (Memᴰ l (lists A m) → (k : ℕ) × (k ≤ m) × (l ≡ R A k))
          → (k : ℕ) × (k ≤ suc m) × (l ≡ R A k)
      go (inl e) ih = (suc m, omega arith, e)
      go (inr t) ih = let (k, b, e) = ih t in (k, omega arith, e)

  lists-into : (m k : ℕ) → 1 ≤ k → k ≤ m → Memᴰ (R A k) (lists A m)
  lists-into zero k l u = absurd (omega arith)
  lists-into (suc m) k l u = rw lists-suc (go (le-suc_iff.0 u) (λ t. lists-into m k l t))
    where
      go : (k ≤ m) ⊎ (k ≡ suc m) → (k ≤ m → Memᴰ (R A k) (lists A m)) → Memᴰ (R A k) (R A (suc m) ∷ lists A m)
      go (inl t) ih = Memᴰ.tail (ih t)
      go (inr e) ih = rw e (Memᴰ.head refl)

  -- a row of R(j) is in the pattern, or is a row above j of an earlier list that contains j
  pub R-cases : (j i : ℕ) → i ∈ R A j → (i ∈ A j) ⊎ Earlier A j i
  unfolding R
  R-cases zero i m = absurd (Memᴰ.not-nil m)
  R-cases (suc j) i m = go (gather-from (suc j) (A (suc j)) (lists A j) m)
    where
      go : (i ∈ A (suc j)) ⊎ Held (suc j) i (lists A j) → (i ∈ A (suc j)) ⊎ Earlier A (suc j) i
      go (inl t) = inl t
      go (inr h) =
          let (k, b, e) = lists-from j h.list h.among in
          inr (record { column = k; before = omega arith; holds = rw e at h.holds; row = rw e at h.row; above = h.above })

  -- eliminating column k makes each of its rows a row of every lower one of them
  pub R-step : (k j i : ℕ) → k < j → j ∈ R A k → i ∈ R A k → j < i → i ∈ R A j
  unfolding R
  R-step k zero i b hj hi l = absurd (omega arith)
  R-step zero (suc j) i b hj hi l = absurd (Memᴰ.not-nil hj)
  R-step (suc k) (suc j) i b hj hi l =
      gather-into (suc j) (A (suc j)) (R A (suc k)) (lists A j) (lists-into j (suc k) (omega arith) (omega arith)) hj hi l

module _ {n : ℕ} {A : Pattern} (good : Below n A) where
  pub R-pattern : (j i : ℕ) → i ∈ A j → i ∈ R A j
  unfolding R
  R-pattern zero i m = rw good.none at m
  R-pattern (suc j) i m = gather-acc (suc j) (A (suc j)) (lists A j) m

  -- R(j) ascends, and its rows are above j
  pub R-asc : (j : ℕ) → Asc j (R A j)
  unfolding R
  R-asc = strong (λ j. Asc j (R A j)) step
    where
      earlier : (j : ℕ) → ((k : ℕ) → k < suc j → Asc k (R A k)) → (l : List ℕ) → Memᴰ l (lists A j) → Asc 0 l
      earlier j ih l m = let (k, b, e) = lists-from A j l m in rw e (asc-weaken 0 k (R A k) (omega arith) (ih k (omega arith)))

      step : (j : ℕ) → ((k : ℕ) → k < j → Asc k (R A k)) → Asc j (R A j)
      step zero ih = tt
      step (suc j) ih = gather-asc (suc j) (A (suc j)) (lists A j) (earlier j ih) (good.ascending (suc j))

  R-above : (j i : ℕ) → i ∈ R A j → j < i
  R-above j i m = asc-above j (R A j) (R-asc j) m

  filled-into : {i j : ℕ} → Filled A i j → i ∈ R A j
  filled-into (given {i = i} {j = j} l m) = R-pattern j i m
  filled-into (filled {i = i} {j = j} {k = k} l b fi fj) = R-step A k j i b (filled-into fj) (filled-into fi) l

  filled-from : (j i : ℕ) → i ∈ R A j → Filled A i j
  filled-from = strong (λ j. (i : ℕ) → i ∈ R A j → Filled A i j) (λ j ih i m. go j ih i (R-above j i m) (R-cases A j i m))
    where
      go : (j : ℕ) → ((k : ℕ) → k < j → (i : ℕ) → i ∈ R A k → Filled A i k) → (i : ℕ) → j < i → (i ∈ A j) ⊎ Earlier A j i → Filled A i j
      go j ih i l (inl m) = given l m
      go j ih i l (inr e) = filled l e.before (ih e.column e.before i e.row) (ih e.column e.before j e.holds)

  -- i is a row of R(j) exactly when (i, j) is filled
  pub row-iff-filled : (i j : ℕ) → (i ∈ R A j) ↔ Filled A i j
  row-iff-filled i j = (filled-from j i, filled-into)

  filled_within : {i j : ℕ} → Filled A i j → i ≤ n
  filled_within (given {i = i} {j = j} l m) = good.within i j m
  filled_within (filled l b fi fj) = filled_within fi

  -- the rows of R(j) are above j and at most n
  pub R-range : (j i : ℕ) → i ∈ R A j → (j < i) × (i ≤ n)
  R-range j i m = (R-above j i m, filled_within (filled-from j i m))

  -- R(j) is the only ascending list of the rows filled in column j
  pub R-only : (j : ℕ) (l : List ℕ) → Asc j l → ((i : ℕ) → (i ∈ l) ↔ Filled A i j) → l ≡ R A j
  R-only j l s f = asc-ext j l (R A j) s (R-asc j) (λ i m. filled-into ((f i).0 m)) (λ i m. (f i).1 (filled-from j i m))
