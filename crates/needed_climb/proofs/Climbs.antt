-- Proves the steps of the climb's loop: every column on the way has row i, and the climb ends at the first marked column, at the latest at column i.
-- Assumes nothing.
use Prim.Native.Nat.{ℕ, ◌+◌, ◌-◌, ◌*◌, ◌<◌, ◌≤◌}
use mathlib.Core.Path.{◌≡◌, refl, sym, ◌∙◌}
use mathlib.Core.Logic.{◌⊎◌, inl, inr, ⊎_elim, ◌≢◌}
use mathlib.Core.List.{List}
use native.Mathlib.Omega.{arith}
use lib.ListN.{length, get_or, set, length-set}
use lib.Seq.{get_or-set_same, get_or-set_other}
use Rattle.papers.specs.Bounds.{max_columns}
use Rattle.papers.specs.Lists.{◌∈◌}
use Rattle.papers.specs.Job.{Pattern}
use Rattle.papers.specs.Fill.{R}
use Rattle.papers.specs.Tree.{parent}
use Rattle.list_laws.proofs.Tests.{below_or, same_or}
use Rattle.fill_laws.proofs.Fill.{R-range}
use Rattle.fill_laws.proofs.Parents.{parent-least, parent_above, hands_on}
use Rattle.needed_climb.specs.Row.{Row, ClimbStart, Climbing, Climbed}
use Rattle.needed_climb.proofs.Marking.{settle, step, parent-new, parent-old, count-few}

-- the climb from k has reached c
pub record Climb (i k : ℕ) (p₀ w₀ : List ℕ) (t₀ : ℕ) (p w : List ℕ) (t c : ℕ) : Type 0 where
  pub state : (n : ℕ) (A : Pattern) → ClimbStart n i k A p₀ w₀ t₀ → Row n i A p w t c × ((c ≡ i) ⊎ (i ∈ R A c))
  pub low : 1 ≤ c
  pub high : c ≤ i
  pub met : (get_or w k 0 ≡ i) ⊎ (c ≡ k)
  pub kept : (x : ℕ) → get_or w₀ x 0 ≡ i → get_or w x 0 ≡ i
  pub others : (x : ℕ) → i < x → get_or w x 0 ≡ get_or w₀ x 0
  pub long-p : length p ≡ length p₀
  pub long-w : length w ≡ length w₀

pub begin : {i k t : ℕ} {p w : List ℕ} → Climbing i k p w t → Climb i k p w t p w t k
begin {i} {k} {t} {p} {w} s =
    record {
      state = λ n A u. (settle k u.row u.row.own, inr u.leaf);
      low = s.start.first;
      high = omega (arith, R-range s.start.good k i s.start.leaf);
      met = inr refl;
      kept = λ x h. h;
      others = λ x h. refl;
      long-p = refl;
      long-w = refl;
    }

-- bounds at the column that the climb has reached
pub record Here (i c : ℕ) (p w : List ℕ) (t : ℕ) : Type 0 where
  pub below : c < i
  pub in_p : c - 1 < length p
  pub in-w : c < length w
  pub small-i : i ≤ max_columns
  pub small-t : t < max_columns * (max_columns + 1)

module _ {i k t₀ t c : ℕ} {p₀ w₀ p w : List ℕ} (s : Climbing i k p₀ w₀ t₀) (r : Climb i k p₀ w₀ t₀ p w t c) where
  pub row_small : i ≤ max_columns
  row_small = omega (arith, R-range s.start.good k i s.start.leaf, s.start.few)

  pub in-work : c < length w
  in-work = omega (arith, R-range s.start.good k i s.start.leaf, s.start.long-work, r.long-w, r.high)

  -- the climb meets a mark
  pub stop : get_or w c 0 ≡ i → Climbed i k p₀ w₀ t₀ p w t
  stop h =
      record {
        row = λ n A u. settle i (r.state n A u).0 h;
        met = ⊎_elim (λ (e : get_or w k 0 ≡ i). e) (λ (e : c ≡ k). rw (← e) h) r.met;
        kept = r.kept;
        others = r.others;
      }

  -- c is not marked yet
  module _ (h : get_or w c 0 ≢ i) where
    on-path : {n : ℕ} {A : Pattern} → Row n i A p w t c × ((c ≡ i) ⊎ (i ∈ R A c)) → i ∈ R A c
    on-path {n} {A} v = ⊎_elim (λ (e : c ≡ i). absurd (h (rw e v.0.own))) (λ (m : i ∈ R A c). m) v.1

    pub here : Here i c p w t
    here =
        let v = r.state s.n s.pattern s.start in
        let q = R-range s.start.good c i (on-path v) in
        let lp = s.start.long-parents in
        let mp = r.long-p in
        let a = r.low in
        record {
          below = q.0;
          in_p = omega (arith, row_small);
          in-w = in-work;
          small-i = row_small;
          small-t = count-few s.start.good s.start.few v.0;
        }

    met-on : get_or (set w c i) k 0 ≡ i
    met-on =
        ⊎_elim
        (λ (z : k ≡ c). rw z (get_or-set_same w c i 0 here.in-w))
        (λ (z : k ≢ c). get_or-set_other w c k i 0 z ∙ ⊎_elim (λ (e : get_or w k 0 ≡ i). e) (λ (e : c ≡ k). absurd (z (sym e))) r.met)
        (same_or k c)

    kept_on : (x : ℕ) → get_or w₀ x 0 ≡ i → get_or (set w c i) x 0 ≡ i
    kept_on x e = get_or-set_other w c x i 0 (λ q. h (rw q at (r.kept x e))) ∙ r.kept x e

    others-on : (x : ℕ) → i < x → get_or (set w c i) x 0 ≡ get_or w₀ x 0
    others-on x l = get_or-set_other w c x i 0 (λ q. omega (arith, here.below)) ∙ r.others x l

    -- the climb goes on at the parent c'
    on : (p' : List ℕ) (c' : ℕ) → c < c' → c' ≤ i → length p' ≡ length p → ((x : ℕ) → x ≢ c - 1 → get_or p' x 0 ≡ get_or p x 0)
        → ((n : ℕ) (A : Pattern) → ClimbStart n i k A p₀ w₀ t₀ → (get_or p' (c - 1) 0 ≡ parent A c) × (parent A c ≡ c'))
        → Climb i k p₀ w₀ t₀ p' (set w c i) (t + 1) c'
    on p' c' l u lp f e =
        record {
          state = λ n A a. row n A a (r.state n A a) (e n A a);
          low = omega arith;
          high = u;
          met = inl met-on;
          kept = kept_on;
          others = others-on;
          long-p = lp ∙ r.long-p;
          long-w = length-set w c i ∙ r.long-w;
        }
      where
        row : (n : ℕ) (A : Pattern) → ClimbStart n i k A p₀ w₀ t₀ → Row n i A p w t c × ((c ≡ i) ⊎ (i ∈ R A c))
            → (get_or p' (c - 1) 0 ≡ parent A c) × (parent A c ≡ c')
            → Row n i A p' (set w c i) (t + 1) c' × ((c' ≡ i) ⊎ (i ∈ R A c'))
        row n A a v g =
            let m = on-path v in
            let next = parent-least a.good c i m in (
              rw g.1 at (step v.0 a.good m r.low h p' (omega (arith, r.long-w, a.long-work)) f g.0),
              ⊎_elim
                  (λ (q : parent A c < i). inr (rw g.1 at (hands_on a.good c i next.0 m q)))
                  (λ (q : i ≤ parent A c). inl (omega (arith, g.1)))
                  (below_or (parent A c) i),
            )

    -- the column's parent is row i
    pub go-new : get_or p (c - 1) 0 ≡ 0 → Climb i k p₀ w₀ t₀ (set p (c - 1) i) (set w c i) (t + 1) i
    go-new e =
        on (set p (c - 1) i) i here.below (omega arith) (length-set p (c - 1) i) (λ x z. get_or-set_other p (c - 1) x i 0 z)
        (λ n A a. let v = r.state n A a in let q = parent-new v.0 a.good (on-path v) r.low h e in
        (get_or-set_same p (c - 1) i 0 here.in_p ∙ sym q, q))

    old : (n : ℕ) (A : Pattern) → ClimbStart n i k A p₀ w₀ t₀ → get_or p (c - 1) 0 ≢ 0
        → (get_or p (c - 1) 0 ≡ parent A c) × ((c < parent A c) × (parent A c ≤ i))
    old n A a e =
        let v = r.state n A a in
        let l = parent-least a.good c i (on-path v) in
        (parent-old v.0 a.good (on-path v) r.low h e, (parent_above a.good c l.0, l.1))

    pub go-up : get_or p (c - 1) 0 ≢ 0 → (c < get_or p (c - 1) 0) × (get_or p (c - 1) 0 ≤ i)
    go-up e = let o = old s.n s.pattern s.start e in (omega (arith, o.0, o.1.0), omega (arith, o.0, o.1.1))

    -- the column's parent is stored already
    pub go-old : get_or p (c - 1) 0 ≢ 0 → Climb i k p₀ w₀ t₀ p (set w c i) (t + 1) (get_or p (c - 1) 0)
    go-old e = on p (get_or p (c - 1) 0) (go-up e).0 (go-up e).1 refl (λ x z. refl) (λ n A a. let q = (old n A a e).0 in (q, sym q))
