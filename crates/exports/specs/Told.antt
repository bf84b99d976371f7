-- What a host is told of the library that it has linked: a version, the limits, the needs, how many kinds, types and sorts there are, and of a type all that
-- there is to know.
-- Assumes nothing.
use Rattle.std.specs.Prelude.{ℕ, ◌≡◌, List, [], ◌∷◌, get_or}
use Rattle.entity.specs.Limits.{limits, graph_need, form_need, work_need}
use Rattle.entity.specs.Types.{Unset, lane_of, lanes_of, plus_one, step_of, type_count, width_of}
use Rattle.exports.specs.declared.SangvirebType.{SangvirebType}

-- rises when an exported call takes, answers or leaves something else, or has another name, or when what it leaves stands for something else
abbrev pub version : ℕ
version = 6

-- kinds of call are numbered from 1 to this
abbrev pub kind_count : ℕ
kind_count = 17

-- sorts of value are numbered from 0
abbrev pub sort_count : ℕ
sort_count = 4

abbrev pub all_told : List ℕ
all_told =
    version  -- 0
    ∷ limits.blocks  -- 1
    ∷ limits.variables  -- 2
    ∷ limits.dests  -- 3
    ∷ limits.made  -- 4
    ∷ limits.calls  -- 5
    ∷ graph_need limits  -- 6
    ∷ form_need limits  -- 7
    ∷ work_need limits  -- 8
    ∷ kind_count  -- 9
    ∷ type_count  -- 10
    ∷ sort_count  -- 11
    ∷ limits.own_params  -- 12
    ∷ []

-- what stands at this place, 0 for any other
abbrev pub told : ℕ → ℕ
told which = get_or all_told which 0

-- of type n
pub record TypeTold (n : ℕ) (r : SangvirebType) : Type 0 where
  pub lane : r.lane ≡ lane_of n
  pub lanes : r.lanes ≡ lanes_of n
  pub width : r.width ≡ width_of n
  pub step : r.step ≡ plus_one (step_of n)
  pub unset : Unset n r.low r.high
