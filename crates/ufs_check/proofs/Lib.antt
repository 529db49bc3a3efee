mod Listed
mod Sectors
