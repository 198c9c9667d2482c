-- What contracts over consoles say of their host.
pub use Rattle.voice_channel.specs.Hosts.{lives, HostState, HostRefines}
