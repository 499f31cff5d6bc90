pub mod Bodies
pub mod Gossip
pub mod Keyed
pub mod Views
pub use Rattle.gateway_kit.specs.GatewayState
