pub mod MayPut
