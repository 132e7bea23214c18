-- An honest state file has an honest file.
use Rattle.std.specs.Prelude.{Bool, true, false, ◌&&◌, IsTrue}
use Rattle.command.specs.inner.SystemFile.{never}

pub its_file : (is_locked is_honest : Bool) → IsTrue (is_locked && is_honest) → IsTrue is_honest
its_file true is_honest both = both
its_file false is_honest both = never both
