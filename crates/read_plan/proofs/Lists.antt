-- Proves the steps of the loop over the lists: the lists left, put onto those read, are all lists; their starts and rows are kept.
-- Assumes nothing.
use Prim.Native.Nat.{zero, suc, ℕ, ◌+◌, ◌-◌, ◌<◌, ◌≤◌}
use mathlib.Core.List.{List, [], ◌∷◌, ◌++◌}
use mathlib.Core.Path.{◌≡◌, refl, sym, ap, ◌∙◌}
use native.Mathlib.Numerals.{add-one}
use native.Mathlib.Omega.{arith}
use lib.ListN.{length, set, length-append}
use lib.Seq.{sets, length-sets, set-set}
use Rattle.papers.specs.Lists.{flat, starts_counted_from}
use Rattle.papers.specs.Numbers.{got, bad, onto}
use Rattle.papers.specs.Key.{list_read_from, lists_read_from}
use Rattle.list_laws.proofs.Stores.{sets-append, sets_more, starts_more, length-starts, flat-more, starts-again}
use Rattle.bytes_laws.proofs.Fields.{then-got, then-bad}
use Rattle.bytes_laws.proofs.Reaches.{list-reach}
use Rattle.read_fields.proofs.Onto.{onto-nil, more, fails, ends, length_more}
use Rattle.read_fields.specs.Reading.{PartFound}
use Rattle.read_lists.specs.Lists.{RowsKept}
use Rattle.read_plan.specs.Plans.{ListsKept}

-- ---- a list and the lists behind it

module _ (n j : ℕ) (s : List ℕ) (at : ℕ) where
  lists-none : (k : ℕ) → k ≡ 0 → lists_read_from n j k s at ≡ got [] at
  unfolding lists_read_from
  lists-none zero z = refl
  lists-none (suc k) z = absurd (omega arith)

  lists-bad : (k : ℕ) {c p : ℕ} → 0 < k → list_read_from n j s at ≡ bad c p → lists_read_from n j k s at ≡ bad c p
  unfolding lists_read_from
  lists-bad zero z e = absurd (omega arith)
  lists-bad (suc k) z e = then-bad _ e

  lists-next : (k : ℕ) {rows : List ℕ} {m : ℕ} → 0 < k → list_read_from n j s at ≡ got rows m
      → lists_read_from n j k s at ≡ onto (rows ∷ []) (lists_read_from n (j + 1) (k - 1) s m)
  unfolding lists_read_from
  lists-next zero z e = absurd (omega arith)
  lists-next (suc k) z e = let q : suc k - 1 ≡ k = omega arith in rw (q, add-one) (then-got _ e)

-- ---- lists read so far

-- the lists of the columns before j are read and kept, with `total` rows, and the next starts at k
pub record Lists (n : ℕ) (s : List ℕ) (at : ℕ) (starts₀ rows₀ starts rows : List ℕ) (k j total : ℕ) : Type 0 where
  pub done : List (List ℕ)
  pub whole : onto done (lists_read_from n j (n + 1 - j) s k) ≡ lists_read_from n 1 n s at
  pub count : length done + 1 ≡ j
  pub few : j ≤ n + 1
  pub counted : total ≡ length (flat done)
  pub inside : k ≤ length s
  pub paced : total ≤ k
  pub begins : starts ≡ sets starts₀ 0 (starts_counted_from 0 done)
  pub listed : rows ≡ sets rows₀ 0 (flat done)

pub lists-start : (n : ℕ) (s : List ℕ) (at : ℕ) (starts rows : List ℕ) → at ≤ length s
    → Lists n s at (set starts 0 0) rows (set starts 0 0) rows at 1 0
unfolding starts_counted_from flat
lists-start n s at starts rows h =
    let q : n + 1 - 1 ≡ n = omega arith in
    record {
      done = [];
      whole = rw q (onto-nil _);
      count = refl;
      few = omega arith;
      counted = refl;
      inside = h;
      paced = omega arith;
      begins = sym (set-set starts 0 0 0);
      listed = refl;
    }

module _ {n at k j total : ℕ} {s starts₀ rows₀ starts rows : List ℕ} (l : Lists n s at starts₀ rows₀ starts rows k j total) where
  -- the slice keeps its length
  pub rows_long : length rows ≡ length rows₀
  rows_long = ap length l.listed ∙ length-sets rows₀ 0 (flat l.done)

  module _ (h : j ≤ n) where
    pub lists-turn : {starts' rows' : List ℕ} {v m : ℕ} → PartFound (λ list. total + length list) (RowsKept total rows rows') (list_read_from n j s k) v m
        → starts' ≡ set starts j v → Lists n s at starts₀ rows₀ starts' rows' m (j + 1) v
    lists-turn {v = v} {m = m} found y =
        let d = l.done in
        let list = found.part in
        let g = found.value in
        let q = l.count in
        let reach = list-reach n s j k list m found.read in
        let on = reach.on in
        let w : n + 1 - j - 1 ≡ n + 1 - (j + 1) = omega arith in
        let c = l.counted in
        let b = l.paced in
        let z : v ≡ 0 + length (flat d) + length list = omega arith in
        record {
          done = d ++ (list ∷ []);
          whole = rw (← w) (more d (list ∷ []) _ l.whole (lists-next n j s k (n + 1 - j) (omega arith) found.read));
          count = omega (arith, length_more d list);
          few = omega arith;
          counted = rw (flat-more d list) (omega (arith, length-append (flat d) list));
          inside = reach.inside l.inside;
          paced = omega arith;
          begins = rw (starts_more 0 d list, ← z) (sets_more (starts_counted_from 0 d) starts₀ 0 v j l.begins y (omega (arith, length-starts 0 d)));
          listed = rw (flat-more d list, sets-append (flat d) rows₀ 0 list, ← l.listed) (found.kept ∙ ap (λ (x : ℕ). sets rows x list)
              (omega arith));
        }

    pub lists-fault : {number place : ℕ} → list_read_from n j s k ≡ bad number place → lists_read_from n 1 n s at ≡ bad number place
    lists-fault e = fails l.done l.whole (lists-bad n j s k (n + 1 - j) (omega arith) e)

  pub lists-stop : (z : List ℕ) → starts₀ ≡ set z 0 0 → n < j
      → PartFound (λ lists. length (flat lists)) (ListsKept z starts rows₀ rows) (lists_read_from n 1 n s at) total k
  lists-stop z e h =
      let u : starts ≡ sets (set z 0 0) 0 (starts_counted_from 0 l.done) = rw (← e) l.begins in
      record {
        part = l.done;
        read = ends l.done l.whole (lists-none n j s k (n + 1 - j) (omega arith));
        value = l.counted;
        kept = record { begins = u ∙ starts-again z l.done; listed = l.listed };
      }
