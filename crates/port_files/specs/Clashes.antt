-- Which files a run can't have open together.
use Rattle.std.specs.Prelude.{Bool, true, false, ◌==◌, ◌&&◌, ◌||◌}
use Rattle.port_files.specs.declared.roll.Role.{Role}
use Rattle.port_files.specs.declared.roll.Role.TheVariants.{Script, In, Out, Replies}
use Rattle.port_files.specs.declared.roll.RegularFile.{RegularFile}

-- the run writes the file of this role
abbrev pub is_written : Role → Bool
is_written Script = false
is_written (In pair) = false
is_written (Out pair) = true
is_written Replies = true

-- both are one file, and one of them at least is written
abbrev pub clashes : RegularFile → RegularFile → Bool
clashes a b = a.device == b.device && (a.inode == b.inode && (is_written a.role || is_written b.role))
