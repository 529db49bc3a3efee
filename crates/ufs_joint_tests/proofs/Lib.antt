pub mod Small
mod RowSteps
mod NamesRowSteps
