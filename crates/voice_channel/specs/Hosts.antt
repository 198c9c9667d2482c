-- What contracts over channels say of their host.
pub use Rattle.alg_host.specs.Hosts.{lives, stat_told, HostState, HostRefines}
