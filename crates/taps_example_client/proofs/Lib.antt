mod Planning
mod Decoding
mod Racing
