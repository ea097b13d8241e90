pub mod Endian
pub mod Format
pub mod Next
pub mod Reader
pub mod RecordHeader
pub mod Resolution
