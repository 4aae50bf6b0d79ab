mod Bytes
mod Follows
