mod Meant
mod Printing
