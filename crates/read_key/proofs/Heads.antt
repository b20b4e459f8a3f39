-- Proves that the numbers before the lists are read one field after the other: the first at fault makes the key unreadable, and four fields in their
-- ranges make the head.
-- Assumes nothing.
use Prim.Native.Nat.{ℕ}
use mathlib.Core.Path.{◌≡◌, ◌∙◌}
use mathlib.Core.List.{List}
use Rattle.papers.specs.Bounds.{edition, max_columns, max_mark, max_limit}
use Rattle.papers.specs.Numbers.{got, bad, field}
use Rattle.papers.specs.declared.JobHead.{JobHead}
use Rattle.bytes_laws.proofs.Fields.{got-inj, then-got, then-bad, then-only, field-got}
use Rattle.read_key.specs.Keys.{mark_read_from, head_read_from, CountAsked}

module _ (n : ℕ) (s : List ℕ) (at : ℕ) where
  pub no-mark : {number place : ℕ} → field 0 max_mark s at ≡ bad number place → mark_read_from n s at ≡ bad number place
  unfolding mark_read_from
  no-mark e = then-bad _ e

  module _ {mark m : ℕ} (e : field 0 max_mark s at ≡ got mark m) where
    pub no-limit : {number place : ℕ} → field 0 max_limit s m ≡ bad number place → mark_read_from n s at ≡ bad number place
    unfolding mark_read_from
    no-limit f = then-got _ e ∙ then-bad _ f

    pub mark-limit : {limit next : ℕ} → field 0 max_limit s m ≡ got limit next
        → mark_read_from n s at ≡ got (record { n = n; mark = mark; limit = limit }) next
    unfolding mark_read_from
    mark-limit f = then-got _ e ∙ then-got _ f

module _ (s : List ℕ) where
  pub no-edition : {number place : ℕ} → field edition edition s 0 ≡ bad number place → head_read_from s ≡ bad number place
  unfolding head_read_from
  no-edition e = then-bad _ e

  module _ {e m : ℕ} (f : field edition edition s 0 ≡ got e m) where
    pub no-columns : {number place : ℕ} → field 0 max_columns s m ≡ bad number place → head_read_from s ≡ bad number place
    unfolding head_read_from
    no-columns g = then-got _ f ∙ then-bad _ g

    pub columns-mark : {n next : ℕ} → field 0 max_columns s m ≡ got n next → head_read_from s ≡ mark_read_from n s next
    unfolding head_read_from
    columns-mark g = then-got _ f ∙ then-got _ g

-- the head's size is within its bound, and it ends within the bytes, so its lists can be counted
pub head-fits : (s : List ℕ) (head : JobHead) (at : ℕ) → head_read_from s ≡ got head at → CountAsked s at head.n
unfolding head_read_from mark_read_from
head-fits s head at e =
    let (ed, to, f, t) = then-only _ (field edition edition s 0) e in
    let (n, tn, g, u) = then-only _ (field 0 max_columns s to) t in
    let (mark, tm, h, v) = then-only _ (field 0 max_mark s tn) u in
    let (limit, tl, k, w) = then-only _ (field 0 max_limit s tm) v in
    let (p, q) = got-inj w in
    record { inside = rw (← q) (field-got 0 max_limit s tm limit tl k).inside; few = rw (← p) (field-got 0 max_columns s to n tn g).high }
