-- Pieces of text that a pen writes one after the other are their concatenation, since stores that follow each other are one run of stores; and a number's
-- digits are those of a tenth and one more.
-- Assumes nothing.
use Prim.Native.Nat.{ℕ, zero, suc, ◌+◌, ◌/◌, ◌%◌, ◌<◌, ◌≤◌}
use mathlib.Core.Path.{◌≡◌, refl, sym, ap, ◌∙◌, subst⁻¹}
use mathlib.Core.Logic.{inl, inr}
use mathlib.Core.List.{List, [], ◌∷◌, ◌++◌, append-nil, append_assoc}
use native.Mathlib.Nat.{add-zero, mod-eq_of_lt}
use native.Mathlib.Numerals.{add-one}
use native.Mathlib.Omega.{arith}
use borrow.Author.Tests.{lt-ltb, le-ltb}
use lib.ListN.{length, get_or, set, take, drop, length-append, drop_of_length-le}
use lib.Seq.{sets, drop-cons}
use Rattle.definition.specs.Base.{up_from}
use Rattle.layout.proofs.Cells.{below?}
use Rattle.lines.specs.Text.{bytes, digits, decimal, named, each, values, block_line, edge_line}
use Rattle.std.proofs.lemmas.List.{take_more}
use Rattle.lines.specs.declared.pen.Pen.{Pen}
use Rattle.lines.specs.Wrote.{Wrote, Writes}

-- ---- one run of stores

-- a byte more of the text t is stored, from place a on
module _ (l t : List ℕ) (a : ℕ) where
  pub put_next : (i : ℕ) → i < length t → sets (set l (a + i) (get_or t i 0)) (a + (i + 1)) (drop (i + 1) t) ≡ sets l (a + i) (drop i t)
  put_next i h =
      let e : a + (i + 1) ≡ suc (a + i) = omega arith in
      sym (ap (sets l (a + i)) (drop-cons t i 0 h) ∙ ap (λ (k : ℕ). sets (set l (a + i) (get_or t i 0)) (suc (a + i)) (drop k t)) (sym (add-one i))
      ∙ ap (λ (k : ℕ). sets (set l (a + i) (get_or t i 0)) k (drop (i + 1) t)) (sym e))

  pub put_end : (i : ℕ) → length t ≤ i → sets l (a + i) (drop i t) ≡ l
  put_end i h = ap (sets l (a + i)) (drop_of_length-le t h)

pub sets_append : (l : List ℕ) (i : ℕ) (xs ys : List ℕ) → sets l i (xs ++ ys) ≡ sets (sets l i xs) (i + length xs) ys
sets_append l i [] ys = rw (add-zero i)
sets_append l i (x ∷ xs) ys = sets_append (set l i x) (suc i) xs ys ∙ ap (λ (k : ℕ). sets (sets (set l i x) (suc i) xs) k ys) (omega arith)

-- a byte more of the text t is written, at the place k behind those before it
pub byte_more : {l m n : List ℕ} {a i k : ℕ} (t : List ℕ) → Wrote l a (take i t) m (a + i) → i < length t → n ≡ set m k (get_or t i 0) → k ≡ a + i
    → Wrote l a (take (i + 1) t) n (a + (i + 1))
byte_more {i = i} t w h s e =
    let more = take_more t i 0 h in
    record { end = rw more (simp length-append (omega (arith, w.end))); out = s ∙ rw (more, sets_append, e) (cc (w.end, w.out)) }

-- ---- pieces

pub no_piece : {p : Pen} → Writes p [] p
no_piece {p} = record { wrote = record { end = sym (add-zero p.at); out = refl }; same_buffer = refl }

pub piece_as : {p q : Pen} {xs ys : List ℕ} → xs ≡ ys → Writes p ys q → Writes p xs q
piece_as {p} {q} e = subst⁻¹ (λ (piece : List ℕ). Writes p piece q) e

infixl 30 ◌then◌
pub ◌then◌ : {p q r : Pen} {xs ys : List ℕ} → Writes p xs q → Writes q ys r → Writes p (xs ++ ys) r
f then g = record {
  wrote = record { end = simp length-append (omega (arith, f.wrote.end, g.wrote.end)); out = g.wrote.out ∙ rw (sets_append, f.wrote.out, f.wrote.end) };
  same_buffer = g.same_buffer ∙ f.same_buffer;
}

-- what a new pen wrote, from the start of a buffer that held l and now holds m
pub whole : {p q : Pen} {xs l m : List ℕ} → Writes p xs q → p.out.now ≡ l → p.at ≡ 0 → m ≡ q.out.now → Wrote l 0 xs m q.at
whole {p} {q} {xs} f e z n = record { end = f.wrote.end ∙ ap (λ (k : ℕ). k + length xs) z; out = n ∙ f.wrote.out ∙ rw (e, z) }

each_append : (f : ℕ → List ℕ) (xs ys : List ℕ) → each f (xs ++ ys) ≡ each f xs ++ each f ys
unfolding each
each_append f [] ys = refl
each_append f (x ∷ xs) ys = ap (λ (l : List ℕ). f x ++ l) (each_append f xs ys) ∙ sym (append_assoc (f x) (each f xs) (each f ys))

up_next : (i n : ℕ) → up_from i (suc n) ≡ up_from i n ++ ((i + n) ∷ [])
up_next i zero = rw (add-zero i)
up_next i (suc n) = ap (λ (l : List ℕ). i ∷ l) (up_next (suc i) n) ∙ ap (λ (k : ℕ). i ∷ (up_from (suc i) n ++ (k ∷ []))) (omega arith)

module _ (f : ℕ → List ℕ) {p q r : Pen} where
  -- what is written of each of xs, and then of x
  one_more : (xs ys : List ℕ) (x : ℕ) → ys ≡ xs ++ (x ∷ []) → Writes p (each f xs) q → Writes q (f x) r → Writes p (each f ys) r
  unfolding each
  one_more xs ys x e g h = rw (e, each_append f xs (x ∷ []), append-nil (f x)) (g then h)

  pub one_more_up : (k : ℕ) → Writes p (each f (up_from 0 k)) q → Writes q (f k) r → Writes p (each f (up_from 0 (k + 1))) r
  one_more_up k =
      let e : 0 + k ≡ k = omega arith in
      one_more (up_from 0 k) (up_from 0 (k + 1)) k (ap (up_from 0) (add-one k) ∙ up_next 0 k ∙ ap (λ (i : ℕ). up_from 0 k ++ (i ∷ [])) e)

  pub one_more_of : (xs : List ℕ) (k : ℕ) → k < length xs → Writes p (each f (take k xs)) q → Writes q (f (get_or xs k 0)) r
      → Writes p (each f (take (k + 1) xs)) r
  one_more_of xs k h = one_more (take k xs) (take (k + 1) xs) (get_or xs k 0) (take_more xs k 0 h)

-- all of them, once no fewer are left
pub all_up : (f : ℕ → List ℕ) {l m : List ℕ} {a r k i : ℕ} → k ≤ i → i ≤ k → Wrote l a (each f (up_from 0 k)) m r → Wrote l a (each f (up_from 0 i)) m r
all_up f {l} {m} {a} {r} {k} {i} p q = let e : i ≡ k = omega arith in subst⁻¹ (λ (j : ℕ). Wrote l a (each f (up_from 0 j)) m r) e

-- ---- digits

-- more steps than there are digits change nothing
enough : (k j n : ℕ) → n < k → n < j → digits k n ≡ digits j n
unfolding digits
enough zero j n h g = absurd (omega arith)
enough (suc k) zero n h g = absurd (omega arith)
enough (suc k) (suc j) n h g = elim (below? n 10) [
  | inl s ↦ rw (lt-ltb n 10 s)
  | inr s ↦ rw (le-ltb n 10 s, enough k j (n / 10) (omega arith) (omega arith))
]

pub decimal_small : (n : ℕ) → n < 10 → decimal n ≡ (48 + n) ∷ []
unfolding decimal digits
decimal_small n h = rw (lt-ltb n 10 h, mod-eq_of_lt h)

pub decimal_big : (n : ℕ) → 10 ≤ n → decimal n ≡ decimal (n / 10) ++ ((48 + n % 10) ∷ [])
unfolding decimal digits
decimal_big n h = rw (le-ltb n 10 h) (ap (λ (l : List ℕ). l ++ ((48 + n % 10) ∷ [])) (enough n (suc (n / 10)) (n / 10) (omega arith) (omega arith)))

-- ---- values

pub no_values : (xs : List ℕ) {p : Pen} → length xs ≡ 0 → Writes p (values xs) p
unfolding values
no_values [] e = no_piece
no_values (x ∷ xs) e = absurd (omega arith)

-- ---- lines

regrouped : (names before xs after : List ℕ) → names ++ before ++ xs ++ after ≡ names ++ (before ++ xs ++ after)
regrouped names before xs after =
    append_assoc (names ++ before) xs after ∙ append_assoc names before (xs ++ after) ∙ ap (λ (l : List ℕ). names ++ l) (sym (append_assoc before xs after))

-- the names, and then the values between two texts
module _ {p q r : Pen} where
  pub as_block : (k : ℕ) (ps : List ℕ) → Writes p (named "b" k ++ (bytes " [label=\"b" ++ decimal k)) q
      → Writes q (bytes "(" ++ values ps ++ bytes ")\"];\n") r → Writes p (block_line k ps) r
  unfolding named block_line
  as_block k ps f g = piece_as (regrouped (named "b" k ++ named " [label=\"b" k) (bytes "(") (values ps) (bytes ")\"];\n")) (f then g)

  pub as_edge : (k i : ℕ) (us : List ℕ) → Writes p (named "b" k ++ (bytes " -> b" ++ decimal i)) q
      → Writes q (bytes " [label=\"" ++ values us ++ bytes "\"];\n") r → Writes p (edge_line k i us) r
  unfolding named edge_line
  as_edge k i us f g = piece_as (regrouped (named "b" k ++ named " -> b" i) (bytes " [label=\"") (values us) (bytes "\"];\n")) (f then g)
