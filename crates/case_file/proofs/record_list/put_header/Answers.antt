use Rattle.case_file.proofs.Ways.{ways}
use Rattle.case_file.proofs.record_list.put_header.Goals as goal

pub returns : goal.returns
returns c = search ways
