mod Following
mod Judging
mod Lasting
mod Ordered
mod Progress
mod Safety
mod Starting
