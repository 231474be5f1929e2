use Rattle.capi.proofs.Ways.{ways}
use Rattle.capi.proofs.basinpantry_check_case.Goals as goal

pub slice_bounds-verdict-end : goal.slice_bounds-verdict-end
slice_bounds-verdict-end c = search ways

pub slice_bounds-put_first-end : goal.slice_bounds-put_first-end
slice_bounds-put_first-end c = search ways

pub returns : goal.returns
returns c = search ways
