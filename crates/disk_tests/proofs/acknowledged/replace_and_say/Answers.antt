use Rattle.std.proofs.Common.{◌≡◌, true}
use Rattle.file_model.specs.Kept.{HasOnly, Replaces, IsBeside}
use Rattle.disk_tests.proofs.Saying.{ran_says_nothing, reply_follows, alike_after_reply, has_after_reply, said_after_files}
use Rattle.disk_tests.proofs.acknowledged.replace_and_say.Goals as goal

pub returns-in_err-replace-clause-acknowledged : goal.returns-in_err-replace-clause-acknowledged
returns-in_err-replace-clause-acknowledged g c =
    ran_says_nothing (Replaces c.args.path.now c.args.bytes.now (IsBeside c.args.path.now)) (HasOnly c.args.path.now c.args.bytes.now) _ _ (c.replace.ensures.instants c.requires.durable)

pub returns-in-Ok-clause-acknowledged : goal.returns-in-Ok-clause-acknowledged
returns-in-Ok-clause-acknowledged g c =
    reply_follows (Replaces c.args.path.now c.args.bytes.now (IsBeside c.args.path.now)) (HasOnly c.args.path.now c.args.bytes.now) c.args.reply.now _ _ _ _
    (c.replace.ensures.instants c.requires.durable) c.in_ok-replace.ensures.published c.say.ensures.says

pub returns-in-Ok-clause-alike : goal.returns-in-Ok-clause-alike
returns-in-Ok-clause-alike g c at alike =
    alike_after_reply (λ q. at q ≡ true) c.args.path.now c.args.bytes.now c.args.reply.now _ _ _ alike
    (c.in_ok-replace.ensures.done c.requires.durable) (g.met.H.Files.sound c.replace.new.files) c.in-Ok.ensures.says

pub returns-in-Err-clause-acknowledged : goal.returns-in-Err-clause-acknowledged
returns-in-Err-clause-acknowledged g c =
    reply_follows (Replaces c.args.path.now c.args.bytes.now (IsBeside c.args.path.now)) (HasOnly c.args.path.now c.args.bytes.now) c.args.reply.now _ _ _ _
    (c.replace.ensures.instants c.requires.durable) c.in_ok-replace.ensures.published c.say.ensures.says

pub returns-in-Ok-clause-said : goal.returns-in-Ok-clause-said
returns-in-Ok-clause-said g c = said_after_files c.args.reply.now c.in-Ok.field-0 _ _ _ c.replace.ensures.files c.in-Ok.ensures.says

pub returns-in-Ok-clause-replaced : goal.returns-in-Ok-clause-replaced
returns-in-Ok-clause-replaced g c =
    has_after_reply (HasOnly c.args.path.now c.args.bytes.now) c.args.reply.now c.in-Ok.field-0 _ _ c.in_ok-replace.ensures.published c.in-Ok.ensures.says
