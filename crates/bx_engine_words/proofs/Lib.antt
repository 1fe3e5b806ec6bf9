mod Numbers
mod OneSetting
mod ReadSoFar
mod ReadWords
mod Crews
