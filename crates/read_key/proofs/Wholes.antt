-- Proves that a key is its head, its lists and the end (key-by-head): the first part at fault makes it unreadable, and if all are read it is the key
-- of the job with that head and those lists.
-- Assumes nothing.
use Prim.Native.Nat.{ℕ, ◌+◌, ◌<◌, ◌≤◌}
use mathlib.Core.Path.{◌≡◌, refl, sym, ap, ◌∙◌}
use Rattle.std.specs.Prelude.{Some, None, Result, Ok, Err}
use Rattle.std.specs.Result.{result_ok}
use Rattle.std.proofs.lemmas.Option.{none-some}
use mathlib.Core.List.{List}
use lib.ListN.{length}
use borrow.Author.Tests.{lt-ltb, le-ltb}
use Rattle.papers.specs.Bounds.{edition, max_columns, max_mark, max_limit}
use Rattle.papers.specs.Lists.{flat, starts_counted_from}
use Rattle.papers.specs.Job.{Job, job_of}
use Rattle.papers.specs.Numbers.{Read, got, bad, then, field, at_end}
use Rattle.papers.specs.Key.{lists_read_from, key_read_from}
use Rattle.papers.specs.declared.JobHead.{JobHead}
use Rattle.bytes_laws.proofs.Fields.{then-got, then-bad}
use Rattle.read_fields.specs.Reading.{PartFound}
use Rattle.read_key.specs.Keys.{mark_read_from, head_read_from, KeyParts, KeyTold}
use Rattle.read_key.proofs.Heads.{head-fits}

-- reading behind two parts is reading behind the first, then behind the second
then-then : {A B C : Type 0} (r : Read A) (f : A → ℕ → Read B) (g : B → ℕ → Read C) → then (then r f) g ≡ then r (λ a at. then (f a at) g)
unfolding then
then-then (got a at) f g = refl
then-then (bad number place) f g = refl

module _ (s : List ℕ) where
  -- the lists behind a head, and the end
  rest : JobHead → ℕ → Read Job
  rest head at = then (lists_read_from head.n 1 head.n s at) λ lists at. at_end (job_of head (starts_counted_from 0 lists) (flat lists)) s at

  key-by-head : key_read_from s ≡ then (head_read_from s) rest
  unfolding key_read_from head_read_from mark_read_from rest then
  key-by-head =
      sym (then-then (field edition edition s 0) (λ e at. with-columns at) rest ∙ ap (then (field edition edition s 0)) (λ i e at. from-columns at i))
    where
      with-limit : ℕ → ℕ → ℕ → Read JobHead
      with-limit n mark at = then (field 0 max_limit s at) λ limit at. got (record { n = n; mark = mark; limit = limit }) at

      with-columns : ℕ → Read JobHead
      with-columns at = then (field 0 max_columns s at) λ n at. mark_read_from n s at

      from-limit : (n mark at : ℕ)
          → then (with-limit n mark at) rest ≡ then (field 0 max_limit s at) (λ limit at. rest (record { n = n; mark = mark; limit = limit }) at)
      from-limit n mark at = then-then (field 0 max_limit s at) (λ limit at. got (record { n = n; mark = mark; limit = limit }) at) rest

      from-mark : (n at : ℕ)
          → then (mark_read_from n s at) rest ≡ then (field 0 max_mark s at) (λ mark at. then (field 0 max_limit s at)
          (λ limit at. rest (record { n = n; mark = mark; limit = limit }) at))
      from-mark n at = then-then (field 0 max_mark s at) (with-limit n) rest ∙ ap (then (field 0 max_mark s at)) (λ i mark at. from-limit n mark at i)

      from-columns : (at : ℕ) → then (with-columns at) rest
          ≡ then (field 0 max_columns s at)
          (λ n at. then (field 0 max_mark s at) (λ mark at. then (field 0 max_limit s at)
          (λ limit at. rest (record { n = n; mark = mark; limit = limit }) at)))
      from-columns at =
          then-then (field 0 max_columns s at) (λ n at. mark_read_from n s at) rest ∙ ap (then (field 0 max_columns s at)) (λ i n at. from-mark n at i)

  pub no-head : {number place : ℕ} → head_read_from s ≡ bad number place → KeyTold s None
  no-head e = (_, _, key-by-head ∙ then-bad _ e)

  module _ {head : JobHead} {at : ℕ} (e : head_read_from s ≡ got head at) where
    behind-head : key_read_from s ≡ rest head at
    behind-head = key-by-head ∙ then-got _ e

    pub no-lists : {number place : ℕ} → lists_read_from head.n 1 head.n s at ≡ bad number place → KeyTold s None
    unfolding rest
    no-lists f = (_, _, behind-head ∙ then-bad _ f)

    module _ {Kept : List (List ℕ) → Type 0} {rows end : ℕ}
        (f : PartFound (λ lists. length (flat lists)) Kept (lists_read_from head.n 1 head.n s at) rows end) where
      at-end : key_read_from s ≡ at_end (job_of head (starts_counted_from 0 f.part) (flat f.part)) s end
      unfolding rest
      at-end = behind-head ∙ then-got _ f.read

      -- bytes after the lists
      pub bytes_after : end < length s → KeyTold s None
      unfolding at_end
      bytes_after h = (15, end + 1, at-end ∙ rw (lt-ltb end (length s) h, at_end))

      pub key-whole : length s ≤ end → KeyParts s head rows at
      unfolding at_end
      key-whole h =
          let fits = head-fits s head at e in
          record {
            lists = f.part;
            end = end;
            whole = at-end ∙ rw (le-ltb end (length s) h, at_end);
            stand = f.read;
            counted = f.value;
            few = fits.few;
            inside = fits.inside;
          }

-- ---- where `ok` finds a value, the Result was Ok; where it finds none, it was Err

module _ {T E : Type 0} where
  pub ok-found : (r : Result T E) {x : T} → Some x ≡ result_ok r → r ≡ Ok x
  ok-found (Ok y) e = cc
  ok-found (Err y) e = absurd (none-some _ (sym e))

  pub ok-none : (r : Result T E) → None ≡ result_ok r → (y : E) × (r ≡ Err y)
  ok-none (Ok y) e = absurd (none-some y e)
  ok-none (Err y) e = (y, refl)

-- a part that is found and kept is found without keeping
pub found-alone : {A : Type 0} {f : A → ℕ} {Kept : A → Type 0} {found : Read A} {v next : ℕ} → PartFound f Kept found v next
    → PartFound f (λ a. Unit {0}) found v next
found-alone p = record { part = p.part; read = p.read; value = p.value; kept = tt }
