mod Columns
mod Made
