-- What the host library's functions promise, and the numbers by which a host names things.
pub mod Numbers
pub mod Named
pub mod Host
