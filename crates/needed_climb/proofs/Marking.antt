-- Proves what one turn of the climb does: it marks and counts one more column and stores its parent. What was still to be marked from that column is
-- then to be marked from its parent.
-- Assumes nothing.
use Prim.Native.Nat.{ℕ, ◌+◌, ◌-◌, ◌*◌, ◌<◌, ◌≤◌}
use mathlib.Core.Path.{◌≡◌, refl, sym, ap, ◌∙◌}
use mathlib.Core.Logic.{◌⊎◌, inl, inr, ⊎_elim, ◌≢◌}
use mathlib.Core.List.{List}
use native.Mathlib.Omega.{arith}
use lib.ListN.{length, get_or, set}
use lib.Seq.{get_or-set_same, get_or-set_other}
use Rattle.papers.specs.Bounds.{max_columns}
use Rattle.papers.specs.Lists.{◌∈◌}
use Rattle.papers.specs.Job.{Pattern, Below}
use Rattle.papers.specs.Fill.{R}
use Rattle.papers.specs.Tree.{parent}
use Rattle.list_laws.proofs.Tests.{below_or, same_or}
use Rattle.list_laws.proofs.Ascending.{asc-length}
use Rattle.fill_laws.proofs.Fill.{R-asc, R-range}
use Rattle.fill_laws.proofs.Parents.{parent-least}
use Rattle.needed_climb.specs.Sums.{sum_to, count_below, hit}
use Rattle.needed_climb.specs.Row.{tally, Row}
use Rattle.needed_climb.proofs.Sums.{hit-yes, hit-no, sum_same, sum_bump, sum-few, below-few}

-- a climb that meets a mark leaves no column to mark
pub settle : {n i d t : ℕ} {A : Pattern} {p w : List ℕ} (e : ℕ) → Row n i A p w t d → get_or w d 0 ≡ i → Row n i A p w t e
settle {n} {i} {d} {t} {A} {p} {w} e r h =
    record {
      known = r.known;
      sum = r.sum;
      marked = r.marked;
      closed = λ c a b m z. inl (⊎_elim (λ (q : get_or w (parent A c) 0 ≡ i). q) (λ (q : parent A c ≡ d). rw q h) (r.closed c a b m z));
      own = r.own;
      low = r.low;
    }

-- another work that keeps the same marks
pub row-ext : {n i d t : ℕ} {A : Pattern} {p w : List ℕ} (w' : List ℕ) → Below n A → i ≤ n → ((x : ℕ) → x ≤ n → get_or w' x 0 ≡ get_or w x 0)
    → Row n i A p w t d → Row n i A p w' t d
row-ext {n} {i} {d} {t} {A} {p} {w} w' good h f r =
    record {
      known = r.known;
      sum = sum_same n (tally A w i) (tally A w' i) (λ c a b. ap (λ m. count_below i (R A c) + hit m i) (f c b)) ∙ r.sum;
      marked = λ c a b m z. r.marked c a b (sym (f c b) ∙ m) z;
      closed = λ c a b m z. closed c a b (sym (f c b) ∙ m) z;
      own = f i h ∙ r.own;
      low = λ c a b. rw (f c b) (r.low c a b);
    }
  where
    closed : (c : ℕ) → 1 ≤ c → c ≤ n → get_or w c 0 ≡ i → c ≢ i → (get_or w' (parent A c) 0 ≡ i) ⊎ (parent A c ≡ d)
    closed c a b m z =
        let l = parent-least good c i (r.marked c a b m z).0 in
        ⊎_elim (λ (q : get_or w (parent A c) 0 ≡ i). inl (f (parent A c) (omega arith) ∙ q)) (λ (q : parent A c ≡ d). inr q) (r.closed c a b m z)

-- the count stays small
pub count-few : {n i t d : ℕ} {A : Pattern} {p w : List ℕ} → Below n A → n ≤ max_columns → Row n i A p w t d → t < max_columns * (max_columns + 1)
count-few {n} {i} {t} {d} {A} {p} {w} good h r = omega (arith, r.sum, sum-few n (tally A w i) (λ c a b. few c))
  where
    at_most : (c : ℕ) → hit (get_or w c 0) i ≤ 1
    at_most c =
        ⊎_elim (λ (e : get_or w c 0 ≡ i). rw (hit-yes (get_or w c 0) i e) (omega arith)) (λ (e : get_or w c 0 ≢ i). rw (hit-no (get_or w c 0) i e)
        (omega arith)) (same_or (get_or w c 0) i)

    few : (c : ℕ) → tally A w i c ≤ max_columns + 1
    few c = omega (arith, below-few i (R A c), at_most c, asc-length n c (R A c) (R-asc good c) (λ x m. (R-range good c x m).1))

-- the climb has reached column c, which has row i and is not marked for it
module _ {n i c t : ℕ} {A : Pattern} {p w : List ℕ} (r : Row n i A p w t c) (good : Below n A) (m : i ∈ R A c) (a : 1 ≤ c) (fresh : get_or w c 0 ≢ i)
  where
    range : (c < i) × (i ≤ n)
    range = R-range good c i m

    -- the column's parent, from the number at its place
    pub parent-new : get_or p (c - 1) 0 ≡ 0 → parent A c ≡ i
    parent-new h =
        let l = parent-least good c i m in
        ⊎_elim
        (λ (u : parent A c < i). absurd (omega (arith, r.known.known c a (omega (arith, range)) l.0 u)))
        (λ (u : i ≤ parent A c). omega arith)
        (below_or (parent A c) i)

    pub parent-old : get_or p (c - 1) 0 ≢ 0 → get_or p (c - 1) 0 ≡ parent A c
    parent-old h =
        ⊎_elim (λ (u : get_or p (c - 1) 0 ≡ 0). absurd (h u)) (λ (u : get_or p (c - 1) 0 ≡ parent A c). u) (r.known.right c a (omega (arith, range)))

    -- marks the column, and stores its parent if none was stored
    pub step : (p' : List ℕ) → n < length w → ((x : ℕ) → x ≢ c - 1 → get_or p' x 0 ≡ get_or p x 0) → get_or p' (c - 1) 0 ≡ parent A c
        → Row n i A p' (set w c i) (t + 1) (parent A c)
    step p' lw f e =
        record { known = record { right = right; known = known }; sum = sum; marked = marked; closed = closed; own = still i r.own; low = low }
      where
        here : get_or (set w c i) c 0 ≡ i
        here = get_or-set_same w c i 0 (omega (arith, range))

        other : (x : ℕ) → x ≢ c → get_or (set w c i) x 0 ≡ get_or w x 0
        other x h = get_or-set_other w c x i 0 h

        still : (x : ℕ) → get_or w x 0 ≡ i → get_or (set w c i) x 0 ≡ i
        still x h = other x (λ q. fresh (rw q at h)) ∙ h

        cell : (x : ℕ) → 1 ≤ x → x ≢ c → get_or p' (x - 1) 0 ≡ get_or p (x - 1) 0
        cell x h z = f (x - 1) (λ q. z (omega arith))

        right : (x : ℕ) → 1 ≤ x → x ≤ n → (get_or p' (x - 1) 0 ≡ 0) ⊎ (get_or p' (x - 1) 0 ≡ parent A x)
        right x h l = ⊎_elim (λ (z : x ≡ c). inr (rw z e)) (λ (z : x ≢ c). rw (cell x h z) (r.known.right x h l)) (same_or x c)

        known : (x : ℕ) → 1 ≤ x → x ≤ n → 0 < parent A x → parent A x < i → get_or p' (x - 1) 0 ≡ parent A x
        known x h l u v = ⊎_elim (λ (z : x ≡ c). rw z e) (λ (z : x ≢ c). cell x h z ∙ r.known.known x h l u v) (same_or x c)

        sum : sum_to n (tally A (set w c i) i) ≡ (t + 1) + 1
        sum =
            let more =
            sum_bump n c (tally A w i) (tally A (set w c i) i) a (omega (arith, range))
            (rw (here, hit-yes i i refl, hit-no (get_or w c 0) i fresh) (omega arith))
            (λ x h l z. ap (λ k. count_below i (R A x) + hit k i) (other x z)) in
            omega (arith, r.sum)

        marked : (x : ℕ) → 1 ≤ x → x ≤ n → get_or (set w c i) x 0 ≡ i → x ≢ i → (i ∈ R A x) × (get_or p' (x - 1) 0 ≡ parent A x)
        marked x h l k z =
            ⊎_elim (λ (q : x ≡ c). rw q (m, e)) (λ (q : x ≢ c). let o = r.marked x h l (sym (other x q) ∙ k) z in (o.0, cell x h q ∙ o.1))
            (same_or x c)

        closed : (x : ℕ) → 1 ≤ x → x ≤ n → get_or (set w c i) x 0 ≡ i → x ≢ i → (get_or (set w c i) (parent A x) 0 ≡ i) ⊎ (parent A x ≡ parent A c)
        closed x h l k z =
            ⊎_elim
            (λ (q : x ≡ c). inr (ap (parent A) q))
            (λ (q : x ≢ c).
            inl
            (⊎_elim (λ (u : get_or w (parent A x) 0 ≡ i). still (parent A x) u) (λ (u : parent A x ≡ c). rw u here)
            (r.closed x h l (sym (other x q) ∙ k) z)))
            (same_or x c)

        low : (x : ℕ) → 1 ≤ x → x ≤ n → get_or (set w c i) x 0 ≤ i
        low x h l = ⊎_elim (λ (q : x ≡ c). rw (q, here) (omega arith)) (λ (q : x ≢ c). rw (other x q) (r.low x h l)) (same_or x c)
