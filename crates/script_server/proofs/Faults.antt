-- What is said of a fault, where there is none or it is another.
use Rattle.std.proofs.Common.{Ok, Err, false, true, ◌≡◌}
use Rattle.std.specs.Prelude.{IsErrOf}
use Rattle.script_server.specs.declared.serving.PortsFault.{PortsFault}
use Rattle.script_server.specs.declared.serving.PortsFault.TheVariants.{Read, Write}

pub is_no_fault : {A P : Type 0} {value : A} {fault : PortsFault} → IsErrOf (Ok value) fault → P
is_no_fault is = cc

pub is_no_ok : {P : Type 0} → false ≡ true → P
is_no_ok is = cc

pub is_no_read : {A P : Type 0} → IsErrOf {T = A} (Err Write) Read → P
is_no_read is = cc

pub is_no_write : {A P : Type 0} → IsErrOf {T = A} (Err Read) Write → P
is_no_write is = cc

pub is_but_write : {A B P : Type 0} {fault : PortsFault} → IsErrOf {T = A} (Err fault) Write → IsErrOf {T = B} (Err fault) Read → P
is_but_write write is = cc
