use Rattle.status_heads.specs.PseudoTexts.{pseudo_message}
use Rattle.status_heads.proofs.PseudoBack.{base_back}
use Rattle.status_heads.proofs.PseudoLine.{line-stamp, line-first}
use Rattle.status_heads.proofs.pseudo.put_pseudo.Goals as goal

pub returns-clause-read : goal.returns-clause-read
returns-clause-read c = base_back c.args.base.now c.requires.validity c.in_ok-text.ensures.fits c.requires.last c.requires.few c.requires.distinct c.in_ok-text.ensures.keywords

pub returns-clause-stamp : goal.returns-clause-stamp
returns-clause-stamp c = line-stamp

pub returns-clause-first : goal.returns-clause-first
returns-clause-first c = line-first c.in_ok-text.text.items (pseudo_message c.args.base.now) c.in_ok-text.ensures.text
