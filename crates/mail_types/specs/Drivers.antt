-- What each driver declares to keep.
use Rattle.std.specs.Prelude.{Bool, true, false}
use Rattle.mail_types.specs.declared.driver.Driver.{Driver}
use Rattle.mail_types.specs.declared.driver.Driver.TheVariants.{Unix, Mmdf, Mbx, Mtx, Tenex, Mh, Mix}
use Rattle.mail_types.specs.declared.driver.DateKeep.TheVariants.{Zone, Second, Epoch}
use Rattle.mail_types.specs.declared.driver.TextKeep.TheVariants.{Exact, Lines, Unix as UnixText, Mmdf as MmdfText}
use Rattle.mail_types.specs.declared.driver.Keeps.{Keeps}
use Rattle.mail_types.specs.declared.flags.Flags.{Flags}

-- all six flags, or none
abbrev pub every_flag : Bool → Flags
every_flag set = record { seen = set; answered = set; flagged = set; deleted = set; draft = set; old = set }

-- one row for each driver: whether UIDs last, how many keywords, the flags, the form of dates, the form of texts, whether modification numbers
abbrev pub keeps_of : Driver → Keeps
keeps_of Unix = record { uids = true; words = 30; flags = every_flag true; date = Second; text = UnixText; numbers = false }
keeps_of Mmdf = record { uids = true; words = 30; flags = every_flag true; date = Second; text = MmdfText; numbers = false }
keeps_of Mbx = record { uids = true; words = 30; flags = every_flag true; date = Zone; text = Exact; numbers = false }
keeps_of Mtx = record { uids = false; words = 0; flags = every_flag true; date = Zone; text = Exact; numbers = false }
keeps_of Tenex = record { uids = false; words = 0; flags = every_flag true; date = Zone; text = Lines; numbers = false }
keeps_of Mh = record { uids = false; words = 0; flags = every_flag false; date = Epoch; text = Lines; numbers = false }
keeps_of Mix = record { uids = true; words = 30; flags = every_flag true; date = Zone; text = Exact; numbers = true }
