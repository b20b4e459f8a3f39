-- Proves that the first line of a text is what precedes its first newline, and that the lines behind it are those of the rest.
-- Assumes nothing.
use Prim.Native.Nat.{ℕ, suc}
use mathlib.Core.Path.{◌≡◌, refl, ap, ◌∙◌}
use mathlib.Core.Logic.{◌↔◌}
use mathlib.Core.List.{List, [], ◌∷◌, ◌++◌}
use native.Mathlib.Omega.{arith}
use lib.Dec.{eqb}
use borrow.Author.Tests.{eqb-true, eqb-false, eq-eqb, ne_eqb}
use Rattle.papers.specs.Text.{newline, Cut, line, unended, starting_with, cut, after_lines}
use Rattle.list_laws.proofs.Tests.{Test, passes, fails, test}
use Rattle.text_laws.specs.Grammar.{All, InLine}

-- the first byte ends the line, or belongs to it
cut-here : (b : ℕ) (bs : List ℕ) → b ≡ newline → cut (b ∷ bs) ≡ line [] bs
unfolding cut
cut-here b bs e = rw (eq-eqb b newline e, cut)

cut_later : (b : ℕ) (bs : List ℕ) → InLine b → cut (b ∷ bs) ≡ starting_with b (cut bs)
unfolding cut
cut_later b bs n = rw (ne_eqb b newline n, cut)

cut_line : (l rest : List ℕ) → All InLine l → cut (l ++ (newline ∷ rest)) ≡ line l rest
unfolding starting_with
cut_line [] rest p = cut-here newline rest refl
cut_line (b ∷ l) rest p = cut_later b (l ++ (newline ∷ rest)) p.0 ∙ ap (starting_with b) (cut_line l rest p.1)

line-cut : (t l rest : List ℕ) → cut t ≡ line l rest → (t ≡ l ++ (newline ∷ rest)) × All InLine l
unfolding cut starting_with
line-cut [] l rest e = absurd (let z : ◌≡◌ {A = ℕ} 0 1 = cc in omega arith)
line-cut (b ∷ bs) l rest e = go (test (eqb b newline)) (cut bs) refl (λ k r q. line-cut bs k r q)
  where
    go : Test (eqb b newline) → (c : Cut) → cut bs ≡ c → ((k r : List ℕ) → cut bs ≡ line k r → (bs ≡ k ++ (newline ∷ r)) × All InLine k)
        → (b ∷ bs ≡ l ++ (newline ∷ rest)) × All InLine l
    go (passes p) c q ih =
        let n = eqb-true b newline p in
        let f = cut-here b bs n in
        let x : [] ≡ l = cc in
        let y : bs ≡ rest = cc in
        rw (← x, ← y) (ap (λ (c : ℕ). c ∷ bs) n, tt)
    go (fails p) unended q ih = absurd (let f = cut_later b bs (eqb-false b newline p) in let z : ◌≡◌ {A = ℕ} 0 1 = cc in omega arith)
    go (fails p) (line k r) q ih =
        let n = eqb-false b newline p in
        let f = cut_later b bs n ∙ ap (starting_with b) q in
        let (s, a) = ih k r q in
        let x : b ∷ k ≡ l = cc in
        let y : r ≡ rest = cc in
        rw (← x, ← y) (ap (λ (c : List ℕ). b ∷ c) s, (n, a))

-- the first line is what precedes the first newline
pub cut-iff : (t l rest : List ℕ) → (cut t ≡ line l rest) ↔ ((t ≡ l ++ (newline ∷ rest)) × All InLine l)
cut-iff t l rest = (line-cut t l rest, λ h. rw h.0 (cut_line l rest h.1))

-- ---- the text behind lines

-- the text behind one more line
pub after_next : (q : ℕ) (text : List ℕ) → after_lines (suc q) text ≡ after_lines 1 (after_lines q text)
unfolding after_lines
after_next q text = refl

pub after_line : (l rest : List ℕ) → All InLine l → after_lines 1 (l ++ (newline ∷ rest)) ≡ rest
unfolding after_lines
after_line l rest p = rw (cut_line l rest p, after_lines)

-- a byte that ends no line does not change what follows the line
after-byte : (b : ℕ) (t : List ℕ) → InLine b → after_lines 1 (b ∷ t) ≡ after_lines 1 t
unfolding after_lines starting_with
after-byte b t n = go (cut t) refl
  where
    go : (c : Cut) → cut t ≡ c → after_lines 1 (b ∷ t) ≡ after_lines 1 t
    go (line l rest) e = rw (cut_later b t n, e, after_lines)
    go unended e = rw (cut_later b t n, e, after_lines)

pub after-part : (l t : List ℕ) → All InLine l → after_lines 1 (l ++ t) ≡ after_lines 1 t
after-part [] t p = refl
after-part (b ∷ l) t p = after-byte b (l ++ t) p.0 ∙ after-part l t p.1
