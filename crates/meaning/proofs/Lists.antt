-- Lists: membership, no duplicates, arguments by parameter; by induction on the list. Assumes nothing.
pub use Rattle.meaning.specs.Stored.{Nodup}
use Prim.Native.Nat.{◌<◌, zero, ℕ, suc}
use mathlib.Core.Path.{◌≡◌, refl, sym, ap, ◌∙◌, subst}
use mathlib.Core.Logic.{⊎_map, ◌≢◌, ◌⊎◌, inl, inr}
use mathlib.Core.Bool.{Bool, true, false, cond, ◌||◌}
use mathlib.Core.Option.{Option, none, some}
use mathlib.Core.List.{List, [], ◌∷◌, ◌++◌, reverse_aux, reverse, map}
use lib.Dec.{eqb}
use lib.ListN.{length, drop, take, get_or}
use native.Mathlib.Nat.{not-suc-le-zero, le_of_suc-le-suc}
use native.Mathlib.Omega.{arith}
use Rattle.definition.specs.Base.{without, or_else, has, put}
use Rattle.meaning.specs.Path.{In}
use Rattle.meaning.proofs.Maps.{same?, eqb_same, eqb_diff, false_true, some_none, put_at, put_other, bool?}
use Rattle.meaning.proofs.Facts.{arg_of}

pub in_left : {A : Type 0} (x : A) (l r : List A) → In x l → In x (l ++ r)
in_left {A = A} x [] r x'' = elim x'' [ ]
in_left x (y ∷ l) r (inl e) = inl e
in_left x (y ∷ l) r (inr h) = inr (in_left x l r h)

pub in_right : {A : Type 0} (x : A) (l r : List A) → In x r → In x (l ++ r)
in_right x [] r h = h
in_right x (y ∷ l) r h = inr (in_right x l r h)

pub in_one : {A : Type 0} (a b : A) → In a (b ∷ []) → a ≡ b
in_one a b (inl e) = e
in_one a b (inr i) = absurd i

-- a list in which nothing stands is empty
pub nil_of : {A : Type 0} (l : List A) → ((x : A) → In x l → ⊥) → l ≡ []
nil_of [] n = refl
nil_of (x ∷ l) n = absurd (n x (inl refl))

pub getD_in : (l : List ℕ) (i : ℕ) → i < length l → In (get_or l i 0) l
getD_in [] i h = absurd (not-suc-le-zero h)
getD_in (x ∷ l) zero h = inl refl
getD_in (x ∷ l) (suc i) h = inr (getD_in l i (le_of_suc-le-suc h))

pub in_cases : {A : Type 0} (x : A) (l r : List A) → In x (l ++ r) → In x l ⊎ In x r
in_cases x [] r h = inr h
in_cases x (y ∷ l) r (inl e) = inl (inl e)
in_cases x (y ∷ l) r (inr h) = ⊎_map inr (λ i. i) (in_cases x l r h)

pub has_in : (p : ℕ) (l : List ℕ) → In p l → has p l ≡ true
has_in p [] x' = elim x' [ ]
has_in p (q ∷ l) (inl e) = rw (e, eqb_same q) refl
has_in p (q ∷ l) (inr i) = by (eqb p q) (has_in p l i)
  where
    by : (b : Bool) → has p l ≡ true → b || has p l ≡ true
    by true e = refl
    by false e = e

pub in_has : (p : ℕ) (l : List ℕ) → has p l ≡ true → In p l
in_has p [] e = absurd (false_true refl e)
in_has p (q ∷ l) e = elim (same? p q) [ inl k ↦ inl k | inr n ↦ inr (in_has p l (rw (eqb_diff p q n) at e)) ]

pub not_has : (x : ℕ) (l : List ℕ) → (In x l → ⊥) → has x l ≡ false
not_has x l n = elim (bool? (has x l)) [ inl e ↦ absurd (n (in_has x l e)) | inr e ↦ e ]

-- what stands in the list at j, where the list at k is l
pub put_in : {A : Type 0} (a : A) (k : ℕ) (l : List A) (f : ℕ → List A) (j : ℕ) → In a (put k l f j) → ((j ≡ k) × In a l) ⊎ In a (f j)
put_in a k l f j i = elim (same? j k) [ inl q ↦ inl (q, rw (put_at k l f j q) at i) | inr n ↦ inr (rw (put_other k l f j n) at i) ]

pub nodup_snoc : (l : List ℕ) (x : ℕ) → Nodup l → (In x l → ⊥) → Nodup (l ++ x ∷ [])
nodup_snoc [] x h n = ((λ i. i), tt)
nodup_snoc (y ∷ l) x h n = (λ i. elim (in_cases y l (x ∷ []) i) [ inl j ↦ h.0 j | inr j ↦ n (inl (sym (in_one y x j))) ], nodup_snoc l x h.1 (λ i. n (inr i)))

-- in a list without duplicates, what stands in the first part is not in the second
pub nodup_both : (l r : List ℕ) → Nodup l → Nodup r → ((x : ℕ) → In x l → In x r → ⊥) → Nodup (l ++ r)
nodup_both [] r h k n = k
nodup_both (x ∷ l) r h k n = (λ i. elim (in_cases x l r i) [ inl j ↦ h.0 j | inr j ↦ n x (inl refl) j ], nodup_both l r h.1 k (λ y i. n y (inr i)))

pub nodup_apart : (l r : List ℕ) (x : ℕ) → Nodup (l ++ r) → In x l → In x r → ⊥
nodup_apart [] r x h i j = i
nodup_apart (y ∷ l) r x h (inl e) j = h.0 (in_right y l r (subst (λ (k : ℕ). In k r) e j))
nodup_apart (y ∷ l) r x h (inr i) j = nodup_apart l r x h.1 i j

pub nodup_right : (l r : List ℕ) → Nodup (l ++ r) → Nodup r
nodup_right [] r h = h
nodup_right (y ∷ l) r h = nodup_right l r h.1

pub without_in : (x : ℕ) (l : List ℕ) (y : ℕ) → In y (without x l) → In y l × (y ≢ x)
without_in x [] y h = elim h [ ]
without_in x (z ∷ l) y h = elim (same? z x) [
  | inl e ↦ let k = without_in x l y (rw (e, eqb_same x) at h) in (inr k.0, k.1)
  | inr n ↦ elim (rw (eqb_diff z x n) at h) [
    | inl q ↦ (inl q, λ r. n (sym q ∙ r))
    | inr i ↦ let k = without_in x l y i in (inr k.0, k.1)
  ]
]

pub without_none : (x : ℕ) (l : List ℕ) → (In x l → ⊥) → without x l ≡ l
without_none x [] h = refl
without_none x (z ∷ l) h = rw (eqb_diff z x (λ e. h (inl (sym e)))) (ap {B = List ℕ} (λ r. z ∷ r) (without_none x l (λ i. h (inr i))))

pub without_append : (x : ℕ) (l r : List ℕ) → without x (l ++ r) ≡ without x l ++ without x r
without_append x [] r = refl
without_append x (z ∷ l) r = by (eqb z x) (without_append x l r)
  where
    by : (b : Bool) → without x (l ++ r) ≡ without x l ++ without x r
        → cond b (without x (l ++ r)) (z ∷ without x (l ++ r)) ≡ cond b (without x l) (z ∷ without x l) ++ without x r
    by true e = e
    by false e = ap {B = List ℕ} (λ q. z ∷ q) e

pub without_mid : (x : ℕ) (l r : List ℕ) → Nodup (l ++ x ∷ r) → without x (l ++ x ∷ r) ≡ l ++ r
without_mid x l r h =
    without_append x l (x ∷ r)
    ∙ rw (without_none x l (λ i. nodup_apart l (x ∷ r) x h i (inl refl)), eqb_same x, without_none x r (nodup_right l (x ∷ r) h).0)

pub nodup_without : (x : ℕ) (l : List ℕ) → Nodup l → Nodup (without x l)
nodup_without x [] h = tt
nodup_without x (z ∷ l) h = by (eqb z x) (nodup_without x l h.1)
  where
    by : (b : Bool) → Nodup (without x l) → Nodup (cond b (without x l) (z ∷ without x l))
    by true n = n
    by false n = (λ i. h.0 (without_in x l z i).0, n)

-- the second of each pair
abbrev pub snds : List (ℕ × ℕ) → List ℕ
snds [] = []
snds (q ∷ qs) = q.1 ∷ snds qs

pub snds_append : (l r : List (ℕ × ℕ)) → snds (l ++ r) ≡ snds l ++ snds r
snds_append [] r = refl
snds_append (q ∷ l) r = ap {B = List ℕ} (λ k. q.1 ∷ k) (snds_append l r)

pub snds_length : (l : List (ℕ × ℕ)) → length (snds l) ≡ length l
snds_length [] = refl
snds_length (q ∷ l) = ap suc (snds_length l)

pub in_snds : (w x : ℕ) (l : List (ℕ × ℕ)) → In (w, x) l → In x (snds l)
in_snds w x [] x'' = elim x'' [ ]
in_snds w x (q ∷ l) (inl e) = inl (ap (λ (p : ℕ × ℕ). p.1) e)
in_snds w x (q ∷ l) (inr i) = inr (in_snds w x l i)

pub getD_last : (l : List ℕ) (y : ℕ) → get_or (l ++ y ∷ []) (length l) 0 ≡ y
getD_last [] y = refl
getD_last (x ∷ l) y = getD_last l y

-- what is left without the first of two parts
pub drop_first : {A : Type 0} (l r : List A) → drop (length l) (l ++ r) ≡ r
drop_first [] r = refl
drop_first (x ∷ l) r = drop_first l r

pub take_first : {A : Type 0} (l r : List A) → take (length l) (l ++ r) ≡ l
take_first [] r = refl
take_first {A} (x ∷ l) r = ap {B = List A} (λ k. x ∷ k) (take_first l r)

-- arguments
pub arg_more : (K L U Z : List ℕ) (e a : ℕ) → arg_of K U e ≡ some a → arg_of (K ++ L) (U ++ Z) e ≡ some a
arg_more [] L U Z e a h = absurd (some_none h refl)
arg_more (k ∷ K) L [] Z e a h = absurd (some_none h refl)
arg_more (k ∷ K) L (u ∷ U) Z e a h = by (eqb e k) (arg_more K L U Z e a) h
  where
    by : (b : Bool) → (arg_of K U e ≡ some a → arg_of (K ++ L) (U ++ Z) e ≡ some a) → cond b (some u) (arg_of K U e) ≡ some a
        → cond b (some u) (arg_of (K ++ L) (U ++ Z) e) ≡ some a
    by true below q = q
    by false below q = below q

pub arg_last : (K U : List ℕ) (e a : ℕ) → (In e K → ⊥) → length U ≡ length K → arg_of (K ++ e ∷ []) (U ++ a ∷ []) e ≡ some a
arg_last [] [] e a n h = rw (eqb_same e)
arg_last [] (u ∷ U) e a n h = absurd (omega arith)
arg_last (k ∷ K) [] e a n h = absurd (omega arith)
arg_last (k ∷ K) (u ∷ U) e a n h = rw (eqb_diff e k (λ q. n (inl q))) (arg_last K U e a (λ i. n (inr i)) (omega arith))

pub arg_skip : (C K G U : List ℕ) (e : ℕ) → (In e C → ⊥) → length G ≡ length C → arg_of (C ++ K) (G ++ U) e ≡ arg_of K U e
arg_skip [] K [] U e n h = refl
arg_skip [] K (u ∷ G) U e n h = absurd (omega arith)
arg_skip (c ∷ C) K [] U e n h = absurd (omega arith)
arg_skip (c ∷ C) K (u ∷ G) U e n h = rw (eqb_diff e c (λ q. n (inl q))) (arg_skip C K G U e (λ i. n (inr i)) (omega arith))

pub or_mono : (a a' b b' : Option ℕ) (o : ℕ) → a' ≡ a → ((e : ℕ) → b ≡ some e → b' ≡ some e) → or_else a b ≡ some o
    → or_else a' b' ≡ some o
or_mono (some x) a' b b' o p h q = ap (λ (c : Option ℕ). or_else c b') p ∙ q
or_mono none a' b b' o p h q = ap (λ (c : Option ℕ). or_else c b') p ∙ h o q

-- lists of results
pub take_in : (n : ℕ) (l : List ℕ) (r : ℕ) → In r (take n l) → In r l
take_in zero l r i = absurd i
take_in (suc n) (x ∷ l) r (inl e) = inl e
take_in (suc n) [] r i = elim i [ ]
take_in (suc n) (x ∷ l) r (inr i) = inr (take_in n l r i)

pub drop_in : (n : ℕ) (l : List ℕ) (r : ℕ) → In r (drop n l) → In r l
drop_in zero l r i = i
drop_in (suc n) [] r i = elim i [ ]
drop_in (suc n) (x ∷ l) r i = inr (drop_in n l r i)

aux_in : (l a : List ℕ) (r : ℕ) → In r (reverse_aux l a) → In r l ⊎ In r a
aux_in [] a r i = inr i
aux_in (x ∷ l) a r i = elim (aux_in l (x ∷ a) r i) [ inl j ↦ inl (inr j) | inr j ↦ elim j [ inl e ↦ inl (inl e) | inr k ↦ inr k ] ]

pub reverse_in : (l : List ℕ) (r : ℕ) → In r (reverse l) → In r l
reverse_in l r i = elim (aux_in l [] r i) [ inl j ↦ j | inr j ↦ absurd j ]

-- one more
pub in_cons : {P : ℕ → Type 0} (x : ℕ) (l : List ℕ) → P x → ((r : ℕ) → In r l → P r) → (r : ℕ) → In r (x ∷ l) → P r
in_cons {P} x l p h r (inl e) = subst P (sym e) p
in_cons {P} x l p h r (inr i) = h r i

pub map_in : (f : ℕ → ℕ) (l : List ℕ) (y : ℕ) → In y (map f l) → (r : ℕ) × In r l × (y ≡ f r)
map_in f [] y x' = elim x' [ ]
map_in f (z ∷ l) y (inl e) = (z, inl refl, e)
map_in f (z ∷ l) y (inr i) = let k = map_in f l y i in (k.0, inr k.1, k.2)

pub in_map : (f : ℕ → ℕ) (l : List ℕ) (r : ℕ) → In r l → In (f r) (map f l)
in_map f [] r x' = elim x' [ ]
in_map f (z ∷ l) r (inl e) = inl (ap f e)
in_map f (z ∷ l) r (inr i) = inr (in_map f l r i)

-- an entry is dropped or left
pub left_of : (x : ℕ) (l : List ℕ) (y : ℕ) → In y l → (y ≡ x) ⊎ In y (without x l)
left_of x [] y x'' = elim x'' [ ]
left_of x (z ∷ l) y (inl e) = elim (same? z x) [ inl q ↦ inl (e ∙ q) | inr n ↦ inr (rw (eqb_diff z x n) (inl e)) ]
left_of x (z ∷ l) y (inr i) = ⊎_map (λ e. e) (more (eqb z x)) (left_of x l y i)
  where
    more : (c : Bool) → In y (without x l) → In y (cond c (without x l) (z ∷ without x l))
    more true j = j
    more false j = inr j
