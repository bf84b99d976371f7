-- The kinds of call, by the numbers of docs/RULES.md.
-- Assumes nothing.
use Rattle.std.specs.Prelude.{ℕ, ◌≡◌, ◌<◌, ◌⊎◌, Result, MatchResult}
use Rattle.calls.specs.declared.kind.Kind.{Kind}
use Rattle.reply.specs.declared.Refusal.{Refusal}

abbrev pub number_of : Kind → ℕ
number_of Kind.DeclareBlock = 1
number_of Kind.DeclareVar = 2
number_of Kind.MakeValue = 3
number_of Kind.Define = 4
number_of Kind.DefineAnswer = 5
number_of Kind.UseVar = 6
number_of Kind.NewBranch = 7
number_of Kind.NewDest = 8
number_of Kind.AddPred = 9
number_of Kind.DropPred = 10
number_of Kind.SealBlock = 11
number_of Kind.SealAllBlocks = 12
number_of Kind.HasAnyPredecessors = 13
number_of Kind.IsSealed = 14
number_of Kind.OwnParam = 15
number_of Kind.GiveArg = 16
number_of Kind.MarkVar = 17

-- the kind that has the number n; or a refusal, where none has it
abbrev pub Decodes : ℕ → Result Kind Refusal → Type 0
Decodes n r = MatchResult r (λ k. number_of k ≡ n) (λ e. (e ≡ Refusal.UnknownKind) × ((n ≡ 0) ⊎ (17 < n)))
