use Rattle.mbx_store.proofs.Texts.{text_span, text_bytes}
use Rattle.mbx_store.proofs.layout.MbxLayoutLayout.text.Goals as goal

pub read_text-requires-clause-stands : goal.read_text-requires-clause-stands
read_text-requires-clause-stands g c = text_span c.args.path.now c.args.self.now c.args.told.now c.args.place _ _ _ c.requires.place c.start_at-start.ensures.is c.size_at-size.ensures.is c.requires.stands

pub returns-clause-bytes : goal.returns-clause-bytes
returns-clause-bytes g c = text_bytes c.args.path.now c.args.self.now c.args.told.now c.args.place _ _ c.args.from _ _ _ c.requires.place c.start_at-start.ensures.is c.size_at-size.ensures.is c.requires.stands c.read_text.ensures.bytes
