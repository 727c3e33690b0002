use Rattle.unix_layout.proofs.Names.{utc_parts}
use Rattle.unix_layout.proofs.writing.delimiter.Goals as goal

pub put_delimiter-requires : goal.put_delimiter-requires
put_delimiter-requires c = record { utc = utc_parts c.args.stamp c.to_utc.result c.to_utc.ensures }
