pub mod ForMakeBatCommandLine
pub mod ForParseLpCmdLine
