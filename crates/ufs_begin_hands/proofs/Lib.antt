mod Clean
mod Readying
mod Numbering
mod Domains
mod Knowing
