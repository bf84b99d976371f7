-- Whether the results agree, turn by turn: what those read so far say, with the results still to come, says what all of them say.
-- Assumes nothing.
use Prim.Native.Nat.{ℕ, ◌+◌, ◌≤◌, ◌<◌}
use mathlib.Core.Path.{◌≡◌, refl, sym, ap, ◌∙◌}
use mathlib.Core.Bool.{Bool, true, false, cond, ◌&&◌}
use mathlib.Core.List.{List, [], ◌∷◌, map}
use native.Mathlib.Omega.{arith}
use native.Mathlib.Numerals.{add-one}
use lib.Dec.{eqb}
use lib.ListN.{length, get_or, drop, drop_of_length-le, length-reverse, take}
use lib.Seq.{drop-cons, length-take-le}
use Rattle.entity.specs.declared.Value.{Value}
use Rattle.definition.specs.Base.{without, every}
use Rattle.definition.specs.Form.{Form}
use Rattle.definition.specs.Read.{resolve}
use Rattle.meaning.specs.Machine.{Task}
use Rattle.meaning.proofs.Lists.{getD_in}
use Rattle.layout.specs.declared.Counts.{Counts}
use Rattle.work.specs.Work.{CanTake, lasts}
use Rattle.settle.specs.declared.Agreement.{Agreement}
use Rattle.settle.specs.Settle.{CanResolve, CanAgree, value, judge}

pub lasts_length : (n : ℕ) (rs : List ℕ) → n ≤ length rs → length (lasts n rs) ≡ n
lasts_length n rs h = length-reverse (take n rs) ∙ length-take-le n rs h

-- what all of them say, where a is what those before the rest said
abbrev pub judge_on : Agreement → List ℕ → Agreement
judge_on Agreement.Nothing ls = judge ls
judge_on (Agreement.One y) ls = judge (y.0 ∷ ls)
judge_on Agreement.Many ls = Agreement.Many

judge_same : (y z : ℕ) (ls : List ℕ) → eqb y z ≡ true → judge (y ∷ ls) ≡ judge (y ∷ z ∷ ls)
judge_same y z ls e = ap (λ (q : Bool). cond (q && every (eqb y) ls) (Agreement.One (value y)) Agreement.Many) (sym e)

judge_other : (y z : ℕ) (ls : List ℕ) → eqb y z ≡ false → Agreement.Many ≡ judge (y ∷ z ∷ ls)
judge_other y z ls e = ap (λ (q : Bool). cond (q && every (eqb y) ls) (Agreement.One (value y)) Agreement.Many) (sym e)

judge_done : (a : Agreement) → a ≡ judge_on a []
judge_done Agreement.Nothing = refl
judge_done (Agreement.One y) = refl
judge_done Agreement.Many = refl

module _ (fl wl : List ℕ) (c : Counts) (n x : ℕ) where
  abbrev left : Form → List ℕ → ℕ → List ℕ
  left s rs i = without x (map (resolve s) (drop i (lasts n rs)))

  -- a answers what the results say
  abbrev Judged : Agreement → Type 0
  Judged a = (s : Form) (ts : List Task) (rs : List ℕ) → CanAgree fl wl c n s ts rs → a ≡ judge (left s rs 0)

  -- whatever the cells show
  abbrev pub Judging : Agreement → ℕ → Type 0
  Judging a i = (s : Form) (ts : List Task) (rs : List ℕ) → CanAgree fl wl c n s ts rs → judge_on a (left s rs i) ≡ judge (left s rs 0)

  module _ (i : ℕ) (lt : i < n) (r : ℕ) (R : (ts : List Task) (rs : List ℕ) → CanTake wl c n ts rs → r ≡ get_or (lasts n rs) i 0) where
    module _ (s : Form) (ts : List Task) (rs : List ℕ) (h : CanAgree fl wl c n s ts rs) where
      inside : i < length (lasts n rs)
      inside = omega (arith, lasts_length n rs h.results.enough)

      pub result_resolves : CanResolve fl c r s
      result_resolves = record { shows = h.shows; few = h.few; chain = rw (R ts rs h.results) (h.chains (get_or (lasts n rs) i 0) (getD_in (lasts n rs) i inside)) }

      here : (y : ℕ) → y ≡ resolve s r → left s rs i ≡ cond (eqb y x) (left s rs (i + 1)) (y ∷ left s rs (i + 1))
      here y e = rw (e, R ts rs h.results, add-one i, drop-cons (lasts n rs) i 0 inside)

    module _ (a : Agreement) (y : Value) (Y : (s : Form) → CanResolve fl c r s → y.0 ≡ resolve s r) (J : Judging a i) where
      rest : {z : Bool} → eqb y.0 x ≡ z → (s : Form) (ts : List Task) (rs : List ℕ) → CanAgree fl wl c n s ts rs
          → judge_on a (cond z (left s rs (i + 1)) (y.0 ∷ left s rs (i + 1))) ≡ judge (left s rs 0)
      rest q s ts rs h =
          let e = here s ts rs h y.0 (Y s (result_resolves s ts rs h)) ∙ ap (λ (z : Bool). cond z (left s rs (i + 1)) (y.0 ∷ left s rs (i + 1))) q in
          ap (judge_on a) (sym e) ∙ J s ts rs h

      pub judge_skip : eqb y.0 x ≡ true → Judging a (i + 1)
      judge_skip = rest

      module _ (d : eqb y.0 x ≡ false) where
        counts : (s : Form) (ts : List Task) (rs : List ℕ) → CanAgree fl wl c n s ts rs → judge_on a (y.0 ∷ left s rs (i + 1)) ≡ judge (left s rs 0)
        counts = rest d

        pub judge_first : a ≡ Agreement.Nothing → Judging (Agreement.One y) (i + 1)
        judge_first e s ts rs h = rw e at (counts s ts rs h)

        pub judge_again : (b : Value) → a ≡ Agreement.One b → eqb b.0 y.0 ≡ true → Judging (Agreement.One b) (i + 1)
        judge_again b e same s ts rs h = judge_same b.0 y.0 (left s rs (i + 1)) same ∙ (rw e at (counts s ts rs h))

        pub judge_many : (b : Value) → a ≡ Agreement.One b → eqb b.0 y.0 ≡ false → Judged Agreement.Many
        judge_many b e differ s ts rs h = judge_other b.0 y.0 (left s rs (i + 1)) differ ∙ (rw e at (counts s ts rs h))

  pub judge_still : (a : Agreement) (i : ℕ) → a ≡ Agreement.Many → Judging a i → Judged Agreement.Many
  judge_still a i e J s ts rs h = rw e at (J s ts rs h)

  pub judge_end : (a : Agreement) (i : ℕ) → n ≤ i → Judging a i → Judged a
  judge_end a i le J s ts rs h =
      judge_done a
      ∙ ap (λ (l : List ℕ). judge_on a (without x (map (resolve s) l))) (sym (drop_of_length-le (lasts n rs) {i = i} (omega (arith, lasts_length n rs h.results.enough))))
      ∙ J s ts rs h
