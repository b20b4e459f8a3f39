-- Proves that a row that is done has marked every column that has it, since parents lead to each from a column whose pattern has it. So the marks are
-- what the count below i + 1 adds to the count below i.
-- Assumes nothing.
use Prim.Native.Nat.{ℕ, zero, suc, ◌+◌, ◌-◌, ◌<◌, ◌≤◌}
use mathlib.Core.Path.{◌≡◌, refl, sym, ◌∙◌}
use mathlib.Core.Logic.{inl, ⊎_elim, ◌≢◌}
use mathlib.Core.List.Memᴰ
use mathlib.Core.List.{List}
use native.Mathlib.Omega.{arith}
use lib.ListN.{length, get_or, set}
use lib.Seq.{get_or-set_same, get_or-set_other}
use Rattle.papers.specs.Lists.{◌∈◌, flat}
use Rattle.papers.specs.Job.{Pattern, Below}
use Rattle.papers.specs.Fill.{R}
use Rattle.papers.specs.Tree.{parent, Under, top, up}
use Rattle.papers.specs.Key.{lists_of}
use Rattle.list_laws.proofs.Tests.{below_or, same_or}
use Rattle.fill_laws.proofs.Fill.{R-asc, R-range}
use Rattle.fill_laws.proofs.Parents.{parent-mem, parent_above}
use Rattle.fill_laws.proofs.Subtrees.{under-le, row-subtree}
use Rattle.needed_climb.specs.Sums.{sum_to, count_below}
use Rattle.needed_climb.specs.Row.{tally, Row}
use Rattle.needed_climb.proofs.Sums.{hit-yes, hit-no, sum_same, sum_bump}
use Rattle.rows_needed.specs.Walk.{Between}
use Rattle.rows_needed.proofs.Counts.{sum-none, sum-lengths, below_none, below_all, below-miss, below-hit}

-- row i begins: its own column is marked
pub opened : {n i t : ℕ} {A : Pattern} {p w : List ℕ} → Between n i A p w t → 1 ≤ i → i ≤ n → n < length w → Row n i A p (set w i i) t i
opened {n} {i} {t} {A} {p} {w} r a b l =
    record {
      known = r.known;
      sum = sum;
      marked = λ x h k m z. absurd (no x h k m z);
      closed = λ x h k m z. absurd (no x h k m z);
      own = here;
      low = low;
    }
  where
    here : get_or (set w i i) i 0 ≡ i
    here = get_or-set_same w i i 0 (omega arith)

    other : (x : ℕ) → x ≢ i → get_or (set w i i) x 0 ≡ get_or w x 0
    other x z = get_or-set_other w i x i 0 z

    no : (x : ℕ) → 1 ≤ x → x ≤ n → get_or (set w i i) x 0 ≡ i → x ≢ i → ⊥
    no x h k m z = omega (arith, r.low x h k, sym (other x z) ∙ m)

    sum : sum_to n (tally A (set w i i) i) ≡ t + 1
    sum =
        let more =
        sum_bump n i (λ c. count_below i (R A c)) (tally A (set w i i) i) a b
        (rw (here, hit-yes i i refl) refl)
        (λ x h k z. rw (other x z, hit-no (get_or w x 0) i (λ q. omega (arith, r.low x h k))) (omega arith)) in
        omega (arith, r.sum)

    low : (x : ℕ) → 1 ≤ x → x ≤ n → get_or (set w i i) x 0 ≤ i
    low x h k = ⊎_elim (λ (z : x ≡ i). rw (z, here) (omega arith)) (λ (z : x ≢ i). rw (other x z) (omega (arith, r.low x h k))) (same_or x i)

-- row i is done: every column whose pattern has it is marked
module _ {n i t : ℕ} {A : Pattern} {p w : List ℕ} (good : Below n A) (r : Row n i A p w t i) (a : 1 ≤ i) (b : i ≤ n)
    (leaves : (c : ℕ) → 1 ≤ c → c ≤ n → i ∈ A c → get_or w c 0 ≡ i)
  where
    marked-up : (c l : ℕ) → Under (parent A) c l → c < i → 1 ≤ l → get_or w l 0 ≡ i → get_or w c 0 ≡ i
    marked-up c l top h k m = m
    marked-up c l (up z u) h k m =
        let q = under-le (parent A) (parent_above good) c (parent A l) u in
        let s = parent_above good l z in
        marked-up c (parent A l) u h (omega arith)
        (⊎_elim (λ (e : get_or w (parent A l) 0 ≡ i). e) (λ (e : parent A l ≡ i). rw e r.own) (r.closed l k (omega arith) m (λ e. omega arith)))

    first : (l : ℕ) → i ∈ A l → 1 ≤ l
    first zero m = absurd (Memᴰ.not-nil (rw good.none at m))
    first (suc l) m = omega arith

    all-marked : (c : ℕ) → i ∈ R A c → get_or w c 0 ≡ i
    all-marked c m =
        let q = (row-subtree good i c).0 m in
        let o = first q.column q.given in
        let v = under-le (parent A) (parent_above good) c q.column q.under in
        marked-up c q.column q.under q.above o (leaves q.column o (omega (arith, q.above)) q.given)

    tally-is : (c : ℕ) → 1 ≤ c → c ≤ n → c ≢ i → tally A w i c ≡ count_below (suc i) (R A c)
    tally-is c h k z =
        ⊎_elim
        (λ (d : get_or w c 0 ≡ i). rw (hit-yes (get_or w c 0) i d, below-hit i c (R A c) (R-asc good c) (r.marked c h k d z).0) refl)
        (λ (d : get_or w c 0 ≢ i). rw (hit-no (get_or w c 0) i d, below-miss i (R A c) (λ m. d (all-marked c m))) (omega arith))
        (same_or (get_or w c 0) i)

    tally-own : tally A w i i ≡ count_below (suc i) (R A i) + 1
    tally-own =
        rw (
          hit-yes (get_or w i 0) i r.own,
          below_none i i (R A i) (R-asc good i) (omega arith),
          below_none (suc i) i (R A i) (R-asc good i) (omega arith),
        ) refl

    pub row_done : Between n (suc i) A p w t
    row_done =
        record {
          known = record { right = r.known.right; known = known };
          sum = omega (arith, r.sum, sum_bump n i (λ c. count_below (suc i) (R A c)) (tally A w i) a b tally-own tally-is);
          low = λ x h k. omega (arith, r.low x h k);
        }
      where
        known : (c : ℕ) → 1 ≤ c → c ≤ n → 0 < parent A c → parent A c < suc i → get_or p (c - 1) 0 ≡ parent A c
        known c h k u v =
            ⊎_elim
            (λ (l : parent A c < i). r.known.known c h k u l)
            (λ (l : i ≤ parent A c).
            let e : parent A c ≡ i = omega arith in
            let m : i ∈ R A c = rw e at (parent-mem A c u) in
            (r.marked c h k (all-marked c m) (λ q. omega (arith, (R-range good c i m).0))).1)
            (below_or (parent A c) i)

-- nothing is counted below row 1
pub first-row : {n : ℕ} {A : Pattern} {p w : List ℕ} → Below n A → ((x : ℕ) → get_or p x 0 ≡ 0) → ((x : ℕ) → x ≤ n → get_or w x 0 ≡ 0)
    → Between n 1 A p w 0
first-row {n} {A} {p} {w} good zp zw =
    record {
      known = record { right = λ c h k. inl (zp (c - 1)); known = λ c h k u v. absurd (omega arith) };
      sum = sum_same n (λ c. 0) (λ c. count_below 1 (R A c)) (λ c h k. below_none 1 c (R A c) (R-asc good c) (omega arith)) ∙ sum-none n;
      low = λ c h k. rw (zw c k) (omega arith);
    }

-- below row n + 1 all rows are counted
pub last_row : {n t : ℕ} {A : Pattern} {p w : List ℕ} → Below n A → Between n (suc n) A p w t → t ≡ length (flat (lists_of n (R A)))
last_row {n} {t} {A} good r =
    sym r.sum
    ∙ sum_same n (λ c. length (R A c)) (λ c. count_below (suc n) (R A c)) (λ c h k. below_all (suc n) (R A c) (λ x m. omega (arith, (R-range good c x m).1)))
    ∙ sum-lengths (R A) n
