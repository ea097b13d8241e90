pub mod Ethernet
pub mod Frame
pub mod Ipv4
pub mod Seen
pub mod Tcp
pub mod Vip
