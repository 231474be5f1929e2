use Rattle.negotiation.proofs.WordLaws.{words_put}
use Rattle.negotiation.proofs.put_words.Goals as goal

pub returns : goal.returns
returns c = words_put c.args.update c.args.answers.now c.args.at c.tell_update.ensures (rw c.from-number.ensures at c.copy.ensures)
