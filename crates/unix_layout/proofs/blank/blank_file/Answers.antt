use Rattle.std.proofs.Common.{◌≤◌, length, ap, sym, subst, ◌∙◌, arith}
use Rattle.mail_types.specs.Limits.{file_limit}
use Rattle.unix_layout.specs.Forms.{unix_read}
use Rattle.unix_layout.proofs.NewFiles.{blank_short, blank_texts}
use Rattle.unix_layout.proofs.blank.blank_file.Goals as goal

pub returns-clause-short : goal.returns-clause-short
returns-clause-short c = subst (λ b. length b ≤ file_limit) (sym c.in_ok-bytes.ensures.is) (blank_short c.args.validity)

pub returns-clause-places : goal.returns-clause-places
returns-clause-places c = ap unix_read.texts c.in_ok-bytes.ensures.is ∙ blank_texts c.args.validity (λ zero. omega (arith, c.requires, zero)) c.in_ok-bytes.ensures.fits
