-- Proves one step of elimination: gathering at column j gives the rows that it is given, and the rows above j of the lists that contain j.
-- Assumes nothing.
use Prim.Native.Nat.{ℕ, ◌<◌}
use mathlib.Core.Path.{◌≡◌, refl}
use mathlib.Core.Logic.{◌⊎◌, inl, inr}
use mathlib.Core.Bool.{true, false}
use mathlib.Core.List.Memᴰ
use mathlib.Core.List.{List, [], ◌∷◌, Memᴰ}
use lib.Dec.{ltb}
use borrow.Author.Tests.{ltb-true, lt-ltb}
use Rattle.papers.specs.Lists.{◌∈◌, Asc, member, keep, merge}
use Rattle.papers.specs.Fill.{gather}
use Rattle.list_laws.proofs.Tests.{Test, passes, fails, test}
use Rattle.list_laws.proofs.Ascending.{asc-bound}
use Rattle.list_laws.proofs.Merges.{merge-asc, merge-left, merge-right, merge-from}
use Rattle.list_laws.proofs.Members.{member-true, member-into}
use Rattle.list_laws.proofs.Keeps.{keep-from, keep-into, keep-asc}

-- one of the lists contains j and i, with i above j
pub record Held (j i : ℕ) (ls : List (List ℕ)) : Type 0 where
  pub list : List ℕ
  pub among : Memᴰ list ls
  pub holds : j ∈ list
  pub row : i ∈ list
  pub above : j < i

module _ (j : ℕ) (acc : List ℕ) where
  gather-yes : (l : List ℕ) (ls : List (List ℕ)) → member j l ≡ true → gather j (l ∷ ls) acc ≡ merge (keep (ltb j) l) (gather j ls acc)
  unfolding gather
  gather-yes l ls e = rw (e, gather)

  gather-no : (l : List ℕ) (ls : List (List ℕ)) → member j l ≡ false → gather j (l ∷ ls) acc ≡ gather j ls acc
  unfolding gather
  gather-no l ls e = rw (e, gather)

  more : {i : ℕ} (l : List ℕ) (ls : List (List ℕ)) → i ∈ gather j ls acc → i ∈ gather j (l ∷ ls) acc
  more {i} l ls m = go (test (member j l))
    where
      go : Test (member j l) → i ∈ gather j (l ∷ ls) acc
      go (passes e) = rw (gather-yes l ls e) (merge-right (keep (ltb j) l) (gather j ls acc) m)
      go (fails e) = rw (gather-no l ls e) m

  pub gather-acc : {i : ℕ} (ls : List (List ℕ)) → i ∈ acc → i ∈ gather j ls acc
  unfolding gather
  gather-acc [] m = m
  gather-acc (l ∷ ls) m = more l ls (gather-acc ls m)

  pub gather-into : {i : ℕ} (l : List ℕ) (ls : List (List ℕ)) → Memᴰ l ls → j ∈ l → i ∈ l → j < i → i ∈ gather j ls acc
  gather-into l [] h hj hi a = absurd (Memᴰ.not-nil h)
  gather-into {i} l (k ∷ ls) h hj hi a = go (Memᴰ.cases_cons h) (λ t. gather-into l ls t hj hi a)
    where
      upper : l ≡ k → i ∈ keep (ltb j) k
      upper e = keep-into (ltb j) k (rw e at hi) (lt-ltb j i a)

      go : (l ≡ k) ⊎ Memᴰ l ls → (Memᴰ l ls → i ∈ gather j ls acc) → i ∈ gather j (k ∷ ls) acc
      go (inl e) ih = rw (gather-yes k ls (member-into j k (rw e at hj))) (merge-left (keep (ltb j) k) (gather j ls acc) (upper e))
      go (inr t) ih = more k ls (ih t)

  pub gather-from : {i : ℕ} (ls : List (List ℕ)) → i ∈ gather j ls acc → (i ∈ acc) ⊎ Held j i ls
  unfolding gather
  gather-from [] m = inl m
  gather-from {i} (l ∷ ls) m = go (test (member j l)) (λ t. gather-from ls t)
    where
      later : (i ∈ acc) ⊎ Held j i ls → (i ∈ acc) ⊎ Held j i (l ∷ ls)
      later (inl t) = inl t
      later (inr h) = inr (record { list = h.list; among = Memᴰ.tail h.among; holds = h.holds; row = h.row; above = h.above })

      pick : member j l ≡ true → (i ∈ keep (ltb j) l) ⊎ (i ∈ gather j ls acc) → (i ∈ gather j ls acc → (i ∈ acc) ⊎ Held j i ls)
          → (i ∈ acc) ⊎ Held j i (l ∷ ls)
      pick e (inl t) ih =
          let (row, above) = keep-from (ltb j) l t in
          inr (record { list = l; among = Memᴰ.head refl; holds = member-true j l e; row = row; above = ltb-true j i above })
      pick e (inr t) ih = later (ih t)

      go : Test (member j l) → (i ∈ gather j ls acc → (i ∈ acc) ⊎ Held j i ls) → (i ∈ acc) ⊎ Held j i (l ∷ ls)
      go (passes e) ih = pick e (merge-from (keep (ltb j) l) (gather j ls acc) (rw (gather-yes l ls e) at m)) ih
      go (fails e) ih = later (ih (rw (gather-no l ls e) at m))

  -- if the lists ascend, what is gathered ascends
  pub gather-asc : (ls : List (List ℕ)) → ((l : List ℕ) → Memᴰ l ls → Asc 0 l) → Asc j acc → Asc j (gather j ls acc)
  unfolding gather
  gather-asc [] h s = s
  gather-asc (l ∷ ls) h s = go (test (member j l)) (gather-asc ls (λ k m. h k (Memᴰ.tail m)) s)
    where
      upper : Asc j (keep (ltb j) l)
      upper = asc-bound j 0 (keep (ltb j) l) (keep-asc (ltb j) 0 l (h l (Memᴰ.head refl))) (λ i m. ltb-true j i (keep-from (ltb j) l m).1)

      go : Test (member j l) → Asc j (gather j ls acc) → Asc j (gather j (l ∷ ls) acc)
      go (passes e) ih = rw (gather-yes l ls e) (merge-asc j (keep (ltb j) l) (gather j ls acc) upper ih)
      go (fails e) ih = rw (gather-no l ls e) ih
