-- Which of the definition's sorts each of the code's stands for.
-- Assumes nothing.
use Rattle.entity.specs.declared.Sort.{Sort}
use Rattle.entity.specs.declared.Sort.TheVariants.{Made, Param, Zero, Caller}
use Rattle.definition.specs.Form.{Sort as SortDefined, made, param, nought, caller}

abbrev pub sort_of : Sort → SortDefined
sort_of Made = made
sort_of Param = param
sort_of Zero = nought
sort_of Caller = caller
