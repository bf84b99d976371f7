-- Small things that the definition uses: tests, maps as functions, lists of numbers.
-- Assumes nothing.
use Rattle.std.specs.Prelude.{ℕ, zero, suc, Bool, true, false, cond, ◌&&◌, ◌||◌, List, [], ◌∷◌, ◌++◌, eqb, ltb, leb, if◌then◌else◌}
use Rattle.std.proofs.Math.Option.{Option, none, some}

-- What a number stands for. A branch bears its block's number.
abbrev pub Block : Type 0
Block = ℕ

abbrev pub Variable : Type 0
Variable = ℕ

abbrev pub Value : Type 0
Value = ℕ

infix 40 ◌=?◌ ◌<?◌ ◌≤?◌
abbrev pub ◌=?◌ : ℕ → ℕ → Bool
x =? y = eqb x y

abbrev pub ◌<?◌ : ℕ → ℕ → Bool
x <? y = ltb x y

abbrev pub ◌≤?◌ : ℕ → ℕ → Bool
x ≤? y = leb x y

-- the map f, but a at k
abbrev pub put {ℓ} : {A : Type ℓ} → ℕ → A → (ℕ → A) → ℕ → A
put k a f j = cond (j =? k) a (f j)

-- the map f of two keys, but a at (k, l)
abbrev pub put₂ {ℓ} : {A : Type ℓ} → ℕ → ℕ → A → (ℕ → ℕ → A) → ℕ → ℕ → A
put₂ k l a f = put k (put l a (f k)) f

abbrev pub is_some {ℓ} : {A : Type ℓ} → Option A → Bool
is_some none = false
is_some (some a) = true

-- the first if it is there, else the second
abbrev pub or_else {ℓ} : {A : Type ℓ} → Option A → Option A → Option A
or_else (some a) b = some a
or_else none b = b

-- the list with a at its end
infixl 65 ◌∷ʳ◌
abbrev pub ◌∷ʳ◌ {ℓ} : {A : Type ℓ} → List A → A → List A
xs ∷ʳ a = xs ++ (a ∷ [])

-- is x in the list?
abbrev pub has : ℕ → List ℕ → Bool
has x [] = false
has x (y ∷ ys) = x =? y || has x ys

abbrev pub every : (ℕ → Bool) → List ℕ → Bool
every f [] = true
every f (x ∷ xs) = f x && every f xs

abbrev pub any : (ℕ → Bool) → List ℕ → Bool
any f [] = false
any f (x ∷ xs) = f x || any f xs

-- the list without the entries equal to x
abbrev pub without : ℕ → List ℕ → List ℕ
without x [] = []
without x (y ∷ ys) = if y =? x then without x ys else y ∷ without x ys

-- the entries before the first x
abbrev pub before : ℕ → List ℕ → List ℕ
before x [] = []
before x (y ∷ ys) = if y =? x then [] else y ∷ before x ys

-- the place of x, counted from n
abbrev pub position : ℕ → ℕ → List ℕ → ℕ
position n x [] = n
position n x (y ∷ ys) = if x =? y then n else position (suc n) x ys

-- n numbers from i on
abbrev pub up_from : ℕ → ℕ → List ℕ
up_from i zero = []
up_from i (suc n) = i ∷ up_from (suc i) n
