mod Examples
mod ExamplesOfPrograms
