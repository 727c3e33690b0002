-- What the counts of a bare host stand for.
use Rattle.file_model.specs.Causes.{Faults}
use Rattle.bare_host.specs.declared.counts.Counts.{Counts}

-- the counts that the trait names
abbrev pub faults_of : Counts → Faults
faults_of counts = record { file = counts.file; hear = counts.hear; say = counts.say; read = counts.read }
