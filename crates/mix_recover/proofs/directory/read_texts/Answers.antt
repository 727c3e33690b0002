use Rattle.std.proofs.Common.{◌∙◌, subst, codes}
use Rattle.file_model.specs.Paths.{child}
use Rattle.mix_recover.specs.Reads.{RefusesLong}
use Rattle.mix_recover.proofs.Together.{passed_on}
use Rattle.mix_recover.proofs.Refusals.{refuse_metadata, refuse_index, refuse_statuses, Reads, reads_one, reads_two, reads_three, Found, texts_found}
use Rattle.mix_recover.proofs.directory.read_texts.Goals as goal

pub returns-in_err-metadata-clause-refused : goal.returns-in_err-metadata-clause-refused
returns-in_err-metadata-clause-refused g c =
    passed_on c.from_residual.result c.in_err-metadata.field-0.0 _ c.from_residual.ensures.1 (refuse_metadata c.args.dir.now _ _ c.in_err-metadata.ensures.refused)

pub returns-in_err-metadata-clause-reads : goal.returns-in_err-metadata-clause-reads
returns-in_err-metadata-clause-reads g c = reads_one c.args.dir.now _ _ _ c.read_named.ensures.reads

pub returns-in_err-index-clause-refused : goal.returns-in_err-index-clause-refused
returns-in_err-index-clause-refused g c =
    passed_on c.from_residual-in_err-index.result c.in_err-index.field-0.0 _ c.from_residual-in_err-index.ensures.1
    (refuse_index c.args.dir.now _ _ (subst (λ h. RefusesLong (child c.args.dir.now (codes ".mixindex")) c.in_err-index.field-0.0 h) c.read_named.ensures.history c.in_err-index.ensures.refused))

pub returns-in_err-index-clause-reads : goal.returns-in_err-index-clause-reads
returns-in_err-index-clause-reads g c =
    reads_two c.args.dir.now _ _ _ _ c.read_named.ensures.reads
    (subst (λ h. Reads (child c.args.dir.now (codes ".mixindex")) (g.F.Files.faults c.read_named.new.files).read (g.F.Files.faults c.read_named-2.new.files).read h) c.read_named.ensures.history c.read_named-2.ensures.reads)

pub returns-in_err-statuses-clause-refused : goal.returns-in_err-statuses-clause-refused
returns-in_err-statuses-clause-refused g c =
    passed_on c.from_residual-in_err-statuses.result c.in_err-statuses.field-0.0 _ c.from_residual-in_err-statuses.ensures.1
    (refuse_statuses c.args.dir.now _ _ (subst (λ h. RefusesLong (child c.args.dir.now (codes ".mixstatus")) c.in_err-statuses.field-0.0 h) (c.read_named-2.ensures.history ∙ c.read_named.ensures.history) c.in_err-statuses.ensures.refused))

pub returns-in_err-statuses-clause-reads : goal.returns-in_err-statuses-clause-reads
returns-in_err-statuses-clause-reads g c =
    reads_three c.args.dir.now _ _ _ _ _ c.read_named.ensures.reads
    (subst (λ h. Reads (child c.args.dir.now (codes ".mixindex")) (g.F.Files.faults c.read_named.new.files).read (g.F.Files.faults c.read_named-2.new.files).read h) c.read_named.ensures.history c.read_named-2.ensures.reads)
    (subst (λ h. Reads (child c.args.dir.now (codes ".mixstatus")) (g.F.Files.faults c.read_named-2.new.files).read (g.F.Files.faults c.read_named-3.new.files).read h) (c.read_named-2.ensures.history ∙ c.read_named.ensures.history) c.read_named-3.ensures.reads)

pub returns-clause-texts : goal.returns-clause-texts
returns-clause-texts g c =
    texts_found c.args.dir.now _ (record { metadata = c.in_ok-metadata.metadata; index = c.in_ok-index.index; statuses = c.in_ok-statuses.statuses }) c.in_ok-metadata.ensures.text
    (subst (λ h. Found (child c.args.dir.now (codes ".mixindex")) c.in_ok-index.index h) c.read_named.ensures.history c.in_ok-index.ensures.text)
    (subst (λ h. Found (child c.args.dir.now (codes ".mixstatus")) c.in_ok-statuses.statuses h) (c.read_named-2.ensures.history ∙ c.read_named.ensures.history) c.in_ok-statuses.ensures.text)

pub returns-clause-reads : goal.returns-clause-reads
returns-clause-reads g c =
    reads_three c.args.dir.now _ _ _ _ _ c.read_named.ensures.reads
    (subst (λ h. Reads (child c.args.dir.now (codes ".mixindex")) (g.F.Files.faults c.read_named.new.files).read (g.F.Files.faults c.read_named-2.new.files).read h) c.read_named.ensures.history c.read_named-2.ensures.reads)
    (subst (λ h. Reads (child c.args.dir.now (codes ".mixstatus")) (g.F.Files.faults c.read_named-2.new.files).read (g.F.Files.faults c.read_named-3.new.files).read h) (c.read_named-2.ensures.history ∙ c.read_named.ensures.history) c.read_named-3.ensures.reads)
