pub mod ToldLines
